use Rattle.std.proofs.Common.{rules}
use Rattle.csdf_core.proofs.playing.play_one.Goals as goal

pub returns-in-Begin-clause-step : goal.returns-in-Begin-clause-step
returns-in-Begin-clause-step c = search rules
