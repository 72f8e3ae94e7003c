use Rattle.std.proofs.Common.{arith, rules}
use Rattle.std.proofs.lemmas.Grind.{common_steps}
use Rattle.csdf_floor.proofs.limits.may_run.Goals as goal

pub loop-actor-preserved : goal.loop-actor-preserved
loop-actor-preserved c = grind (arith, common_steps)

pub returns-then-from : goal.returns-then-from
returns-then-from c = search rules
