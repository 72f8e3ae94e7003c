use Rattle.std.proofs.Common.{arith}
use Rattle.std.proofs.lemmas.Grind.{common_steps}
use Rattle.csdf_crew.proofs.ready_set.all_producers.Goals as goal

pub loop-actor-preserved : goal.loop-actor-preserved
loop-actor-preserved c = record { count = grind (arith, common_steps); masks = grind (arith, common_steps) }

pub returns-clause-masks : goal.returns-clause-masks
returns-clause-masks c = grind (arith, common_steps)

pub returns-clause-count : goal.returns-clause-count
returns-clause-count c = grind (arith, common_steps)

pub producers_of-requires : goal.producers_of-requires
producers_of-requires c = grind (arith, common_steps)

pub overflow_cast-actor-end : goal.overflow_cast-actor-end
overflow_cast-actor-end c = grind (arith, common_steps)
