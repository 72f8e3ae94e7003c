use Rattle.std.proofs.Common.{arith}
use Rattle.std.proofs.lemmas.Grind.{common_steps}
use Rattle.csdf_analysis.proofs.room.accept_roomy.Goals as goal

pub give_room-requires-clause-some : goal.give_room-requires-clause-some
give_room-requires-clause-some c = grind (arith, common_steps)

pub new-requires : goal.new-requires
new-requires c = grind (arith, common_steps)

pub returns-in-Ok-clause-graph : goal.returns-in-Ok-clause-graph
returns-in-Ok-clause-graph c = grind (arith, common_steps)

pub returns-in-Ok-clause-firings : goal.returns-in-Ok-clause-firings
returns-in-Ok-clause-firings c = grind (arith, common_steps)

pub returns-in-Ok-clause-accepted : goal.returns-in-Ok-clause-accepted
returns-in-Ok-clause-accepted c = grind (arith, common_steps)

pub returns-in-Err-clause-unchanged : goal.returns-in-Err-clause-unchanged
returns-in-Err-clause-unchanged c = grind (arith, common_steps)

pub returns-in-Err-clause-refusal : goal.returns-in-Err-clause-refusal
returns-in-Err-clause-refusal c = grind (arith, common_steps)

pub capacities_in_room-requires-clause-vector : goal.capacities_in_room-requires-clause-vector
capacities_in_room-requires-clause-vector c = c.requires.vector

pub capacities_in_room-requires-clause-some : goal.capacities_in_room-requires-clause-some
capacities_in_room-requires-clause-some c = c.requires.some

pub give_room-requires-clause-vector : goal.give_room-requires-clause-vector
give_room-requires-clause-vector c = c.requires.vector
