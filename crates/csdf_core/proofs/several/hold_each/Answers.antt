use Rattle.std.proofs.lemmas.Grind.{common_steps}
use Rattle.std.proofs.Common.{arith}
use Rattle.csdf_core.proofs.several.hold_each.Goals as goal

pub loop-channel-init : goal.loop-channel-init
loop-channel-init c = grind (arith, common_steps)

pub returns-then-from-needed : goal.returns-then-from-needed
returns-then-from-needed c = grind (arith, common_steps)

pub loop-channel-smaller : goal.loop-channel-smaller
loop-channel-smaller c = grind (arith, common_steps)
