use Rattle.std.proofs.lemmas.Grind.{common_steps}
use Rattle.std.proofs.Common.{rules, arith}
use Rattle.csdf_crew.proofs.worker.fire.Goals as goal

pub evaluate-requires-clause-passed : goal.evaluate-requires-clause-passed
evaluate-requires-clause-passed g c = search rules

pub returns-in-Err-clause-finished : goal.returns-in-Err-clause-finished
returns-in-Err-clause-finished g c = grind (arith, common_steps)

pub returns-in-Ok-clause-finished : goal.returns-in-Ok-clause-finished
returns-in-Ok-clause-finished g c = grind (arith, common_steps)
