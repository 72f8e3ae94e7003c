use Rattle.std.proofs.Common.{arith}
use Rattle.std.proofs.lemmas.Grind.{common_steps}
use Rattle.csdf_crew.proofs.ready_set.ReadySet.made.Goals as goal

pub returns-clause-producers : goal.returns-clause-producers
returns-clause-producers c = grind (arith, common_steps)

pub returns-clause-consumers : goal.returns-clause-consumers
returns-clause-consumers c = grind (arith, common_steps)

pub returns-clause-own : goal.returns-clause-own
returns-clause-own c = grind (arith, common_steps)
