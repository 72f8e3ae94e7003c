use Rattle.std.proofs.Common.{arith}
use Rattle.std.proofs.lemmas.Grind.{common_steps}
use Rattle.csdf_analysis.proofs.neighbours.neighbours.Goals as goal

pub loop-actor-preserved : goal.loop-actor-preserved
loop-actor-preserved c = grind (arith, common_steps)

pub returns : goal.returns
returns c = grind (arith, common_steps)

pub neighbours_of-requires-clause-few : goal.neighbours_of-requires-clause-few
neighbours_of-requires-clause-few c = grind (arith, common_steps)

pub loop-actor-init : goal.loop-actor-init
loop-actor-init c = grind (arith, common_steps)

pub overflow_cast-actor-end : goal.overflow_cast-actor-end
overflow_cast-actor-end c = grind (arith, common_steps)

pub neighbours_of-requires-clause-exists : goal.neighbours_of-requires-clause-exists
neighbours_of-requires-clause-exists c = grind (arith, common_steps)
