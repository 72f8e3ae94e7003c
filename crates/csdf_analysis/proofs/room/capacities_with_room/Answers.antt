use Rattle.std.proofs.Common.{arith}
use Rattle.std.proofs.lemmas.Grind.{common_steps}
use Rattle.std.proofs.Common.{◌≤◌, length}
use Rattle.csdf_analysis.specs.Repetition.{IsWithin, full_capacity}
use Rattle.csdf_analysis.proofs.LeastLemmas.{channel_has}
use Rattle.csdf_analysis.proofs.room.capacities_with_room.Goals as goal

pub capacity_with_room-requires-clause-channel : goal.capacity_with_room-requires-clause-channel
capacity_with_room-requires-clause-channel c = channel_has (IsWithin (length c.args.q.now)) c.args.channels.now c.loop-channel.channel-index c.channel-item.result
    c.loop-channel-test.true c.channel-item.is c.requires.channels

pub capacity_with_room-requires-clause-full : goal.capacity_with_room-requires-clause-full
capacity_with_room-requires-clause-full c = channel_has (λ d. full_capacity c.args.q.now d ≤ 65535) c.args.channels.now c.loop-channel.channel-index
    c.channel-item.result c.loop-channel-test.true c.channel-item.is c.requires.room

pub loop-channel-preserved : goal.loop-channel-preserved
loop-channel-preserved c = grind (arith, common_steps)

pub returns : goal.returns
returns c = grind (arith, common_steps)

pub loop-channel-init : goal.loop-channel-init
loop-channel-init c = grind (arith, common_steps)
