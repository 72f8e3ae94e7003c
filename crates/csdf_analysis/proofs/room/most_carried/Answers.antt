use Rattle.std.proofs.Common.{◌≤◌, length}
use Rattle.csdf_analysis.specs.Repetition.{IsWithin, full_capacity}
use Rattle.csdf_analysis.proofs.LeastLemmas.{channel_has}
use Rattle.csdf_analysis.proofs.room.most_carried.Goals as goal

pub carried-requires-clause-channel : goal.carried-requires-clause-channel
carried-requires-clause-channel c = channel_has (IsWithin (length c.args.q.now)) c.args.channels.now c.loop-channel.channel-index c.channel-item.result
    c.loop-channel-test.true c.channel-item.is c.requires.channels

pub carried-requires-clause-full : goal.carried-requires-clause-full
carried-requires-clause-full c = channel_has (λ d. full_capacity c.args.q.now d ≤ 65535) c.args.channels.now c.loop-channel.channel-index
    c.channel-item.result c.loop-channel-test.true c.channel-item.is c.requires.room
