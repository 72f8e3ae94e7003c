use Rattle.std.proofs.Common.{rules}
use Rattle.csdf_core.proofs.firing_core.Core.is_stopped.Goals as goal

pub returns-in-Some : goal.returns-in-Some
returns-in-Some c = search rules
