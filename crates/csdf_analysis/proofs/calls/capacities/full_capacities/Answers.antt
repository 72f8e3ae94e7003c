use Rattle.std.proofs.lemmas.Grind.{common_steps}
use Rattle.std.proofs.Common.{◌≤◌, length, arith}
use Rattle.csdf_analysis.specs.Repetition.{IsWithin, full_capacity}
use Rattle.csdf_analysis.proofs.LeastLemmas.{channel_has}
use Rattle.csdf_analysis.proofs.calls.capacities.full_capacities.Goals as goal

pub full_capacity-requires : goal.full_capacity-requires
full_capacity-requires c = channel_has (IsWithin (length c.args.q.now)) c.args.channels.now c.loop-channel.channel-index c.channel-item.result
    c.loop-channel-test.true c.channel-item.is c.requires.channels

pub overflow_cast-full_capacity : goal.overflow_cast-full_capacity
overflow_cast-full_capacity c =
    let room = channel_has (λ d. full_capacity c.args.q.now d ≤ 65535) c.args.channels.now c.loop-channel.channel-index c.channel-item.result
    c.loop-channel-test.true c.channel-item.is c.requires.room in
    omega (arith, room, c.full_capacity.ensures)

pub loop-channel-preserved : goal.loop-channel-preserved
loop-channel-preserved c = grind (arith, common_steps)

pub returns : goal.returns
returns c = grind (arith, common_steps)

pub loop-channel-init : goal.loop-channel-init
loop-channel-init c = grind (arith, common_steps)
