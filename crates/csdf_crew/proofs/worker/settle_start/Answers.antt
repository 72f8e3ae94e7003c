use Rattle.std.proofs.lemmas.Grind.{common_steps}
use Rattle.std.proofs.Common.{rules, arith}
use Rattle.csdf_crew.proofs.worker.settle_start.Goals as goal

pub returns-in-Ok-clause-holds : goal.returns-in-Ok-clause-holds
returns-in-Ok-clause-holds c = search rules

pub returns-then-matches-clause-ready : goal.returns-then-matches-clause-ready
returns-then-matches-clause-ready c = grind (arith, common_steps)

pub returns-in-Ok-clause-ready : goal.returns-in-Ok-clause-ready
returns-in-Ok-clause-ready c = grind (arith, common_steps)

pub returns-in-Err-clause-finished : goal.returns-in-Err-clause-finished
returns-in-Err-clause-finished c = grind (arith, common_steps)

pub returns-in-Ok-clause-finished : goal.returns-in-Ok-clause-finished
returns-in-Ok-clause-finished c = grind (arith, common_steps)

pub returns-in-Err-clause-holds : goal.returns-in-Err-clause-holds
returns-in-Err-clause-holds c = search rules
