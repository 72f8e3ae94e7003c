use Rattle.std.proofs.Common.{arith}
use Rattle.std.proofs.lemmas.Grind.{common_steps}
use Rattle.csdf_analysis.proofs.neighbours.neighbours_of.Goals as goal

pub joined-others-requires : goal.joined-others-requires
joined-others-requires c = grind (arith, common_steps)

pub with_actor-requires : goal.with_actor-requires
with_actor-requires c = grind (arith, common_steps)

pub returns-clause-woken : goal.returns-clause-woken
returns-clause-woken c = grind (arith, common_steps)

pub returns-clause-actors : goal.returns-clause-actors
returns-clause-actors c = grind (arith, common_steps)
