use Rattle.std.proofs.Common.{arith}
use Rattle.std.proofs.lemmas.Grind.{common_steps}
use Rattle.csdf_core.proofs.firing_core.Core.turn.Goals as goal

pub returns-clause-in_phase : goal.returns-clause-in_phase
returns-clause-in_phase c = grind (arith, common_steps)
