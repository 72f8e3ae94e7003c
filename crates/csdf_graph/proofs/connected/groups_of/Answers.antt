use Rattle.std.proofs.Common.{arith}
use Rattle.std.proofs.lemmas.Grind.{common_steps}
use Rattle.csdf_graph.proofs.connected.groups_of.Goals as goal

pub returns-in_err-groups : goal.returns-in_err-groups
returns-in_err-groups c = grind (arith, common_steps)

pub loop-channel-init : goal.loop-channel-init
loop-channel-init c = grind (arith, common_steps)

pub merged-requires : goal.merged-requires
merged-requires c = grind (arith, common_steps)

pub returns-in_err-groups-2 : goal.returns-in_err-groups-2
returns-in_err-groups-2 c = grind (arith, common_steps)

pub loop-channel-smaller : goal.loop-channel-smaller
loop-channel-smaller c = grind (arith, common_steps)

pub loop-channel-preserved : goal.loop-channel-preserved
loop-channel-preserved c = grind (arith, common_steps)

pub returns : goal.returns
returns c = grind (arith, common_steps)
