use Rattle.std.proofs.Common.{arith}
use Rattle.std.proofs.lemmas.Grind.{common_steps}
use Rattle.csdf_core.proofs.filling.blank_lists.Goals as goal

pub returns-clause-stages : goal.returns-clause-stages
returns-clause-stages c = grind (arith, common_steps)

pub returns-clause-opens : goal.returns-clause-opens
returns-clause-opens c = grind (arith, common_steps)

pub returns-clause-sums : goal.returns-clause-sums
returns-clause-sums c = grind (arith, common_steps)
