use Rattle.std.proofs.lemmas.Grind.{common_steps}
use Rattle.std.proofs.Common.{arith}
use Rattle.csdf_kernel.proofs.channels.push_small.Goals as goal

pub loop-place-init : goal.loop-place-init
loop-place-init c = grind (arith, common_steps)

pub loop-place-smaller : goal.loop-place-smaller
loop-place-smaller c = grind (arith, common_steps)

pub returns-clause-items : goal.returns-clause-items
returns-clause-items c = grind (arith, common_steps)

pub returns-clause-capacity : goal.returns-clause-capacity
returns-clause-capacity c = grind (arith, common_steps)
