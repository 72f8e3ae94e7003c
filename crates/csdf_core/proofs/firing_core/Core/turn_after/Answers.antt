use Rattle.std.proofs.Common.{rules}
use Rattle.csdf_core.proofs.firing_core.Core.turn_after.Goals as goal

pub returns-clause-firing : goal.returns-clause-firing
returns-clause-firing c = search rules
