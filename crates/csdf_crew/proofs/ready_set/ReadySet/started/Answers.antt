use Rattle.std.proofs.Common.{arith}
use Rattle.std.proofs.lemmas.Grind.{common_steps}
use Rattle.csdf_crew.proofs.ready_set.ReadySet.started.Goals as goal

pub returns-clause-able : goal.returns-clause-able
returns-clause-able c = grind (arith, common_steps)
