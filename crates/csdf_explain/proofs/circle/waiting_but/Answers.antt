use Rattle.std.proofs.Common.{arith}
use Rattle.std.proofs.lemmas.Grind.{common_steps}
use Rattle.csdf_explain.proofs.circle.waiting_but.Goals as goal

pub loop-actor-init : goal.loop-actor-init
loop-actor-init c = grind (arith, common_steps)

pub loop-actor-preserved : goal.loop-actor-preserved
loop-actor-preserved c = grind (arith, common_steps)

pub returns : goal.returns
returns c = grind (arith, common_steps)
