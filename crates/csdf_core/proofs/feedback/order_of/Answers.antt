use Rattle.std.proofs.Common.{arith}
use Rattle.std.proofs.lemmas.Grind.{common_steps}
use Rattle.csdf_core.proofs.feedback.order_of.Goals as goal

pub returns-in-len2-2-clause-order : goal.returns-in-len2-2-clause-order
returns-in-len2-2-clause-order c = grind (arith, common_steps)

pub returns-in-len2-clause-order : goal.returns-in-len2-clause-order
returns-in-len2-clause-order c = grind (arith, common_steps)

pub returns-in-len1-clause-order : goal.returns-in-len1-clause-order
returns-in-len1-clause-order c = grind (arith, common_steps)
