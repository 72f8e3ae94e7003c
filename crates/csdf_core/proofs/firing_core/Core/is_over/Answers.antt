use Rattle.std.proofs.Common.{arith}
use Rattle.std.proofs.lemmas.Grind.{common_steps}
use Rattle.csdf_core.proofs.firing_core.Core.is_over.Goals as goal

pub returns-else-is_spent : goal.returns-else-is_spent
returns-else-is_spent c = grind (arith, common_steps)
