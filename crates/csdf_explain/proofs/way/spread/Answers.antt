use Rattle.std.proofs.Common.{length, map, ◌∙◌}
use Rattle.csdf_model.specs.Graph.{channel_view}
use Rattle.csdf_explain.proofs.DistanceLemmas.{channel_at, from_within, reaches, spread_on, to_within}
use Rattle.csdf_explain.proofs.way.spread.Goals as goal

pub reach-there-requires-clause-exists : goal.reach-there-requires-clause-exists
reach-there-requires-clause-exists c =
    to_within c.args.channels.now (length c.args.distances.now) c.loop-channel.channel-index c.channel-item.result c.loop-channel.distances c.requires.within
    c.loop-channel.invariant.long c.loop-channel-test.true c.channel-item.is

pub reach-back-requires-clause-exists : goal.reach-back-requires-clause-exists
reach-back-requires-clause-exists c =
    let d = c.channel-item.result in
    let to = to_within c.args.channels.now (length c.args.distances.now) c.loop-channel.channel-index d c.loop-channel.distances c.requires.within
    c.loop-channel.invariant.long c.loop-channel-test.true c.channel-item.is in
    let there = reaches d.from d.to c.args.count c.loop-channel.distances c.reach-there.new.distances c.reach-there.result to c.reach-there.ensures.new
    c.reach-there.ensures.told in
    from_within c.args.channels.now (length c.args.distances.now) c.loop-channel.channel-index d c.reach-there.new.distances c.requires.within
    (there.long ∙ c.loop-channel.invariant.long) c.loop-channel-test.true c.channel-item.is

pub loop-channel-preserved : goal.loop-channel-preserved
loop-channel-preserved c =
    let d = c.channel-item.result in
    let to = to_within c.args.channels.now (length c.args.distances.now) c.loop-channel.channel-index d c.loop-channel.distances c.requires.within
    c.loop-channel.invariant.long c.loop-channel-test.true c.channel-item.is in
    let there = reaches d.from d.to c.args.count c.loop-channel.distances c.reach-there.new.distances c.reach-there.result to c.reach-there.ensures.new
    c.reach-there.ensures.told in
    let from = from_within c.args.channels.now (length c.args.distances.now) c.loop-channel.channel-index d c.reach-there.new.distances c.requires.within
    (there.long ∙ c.loop-channel.invariant.long) c.loop-channel-test.true c.channel-item.is in
    let back = reaches d.to d.from c.args.count c.reach-there.new.distances c.reach-back.new.distances c.reach-back.result from c.reach-back.ensures.new
    c.reach-back.ensures.told in
    spread_on (map channel_view c.args.channels.now) c.loop-channel.channel-index c.args.count (channel_view d) c.args.distances.now c.loop-channel.distances
    c.reach-there.new.distances c.reach-back.new.distances c.loop-channel.is_more c.reach-there.result c.reach-back.result
    (channel_at c.args.channels.now c.loop-channel.channel-index d c.loop-channel-test.true c.channel-item.is) c.loop-channel.invariant there back
