use Rattle.std.proofs.lemmas.Grind.{common_steps}
use Rattle.std.proofs.Common.{arith}
use Rattle.csdf_core.proofs.firing_core.Core.tokens.Goals as goal

pub returns : goal.returns
returns c = grind (arith, common_steps)
