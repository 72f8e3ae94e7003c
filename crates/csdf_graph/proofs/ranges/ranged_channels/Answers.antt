use Rattle.csdf_graph.specs.Shape.{channel_view as draft_of_channel}
use Rattle.csdf_graph.specs.Ranges.{ranged_channel, ranged_view}
use Rattle.csdf_graph.proofs.PassLemmas.{at_place, stands_on}
use Rattle.csdf_graph.proofs.ranges.ranged_channels.Goals as goal

pub loop-place-preserved : goal.loop-place-preserved
loop-place-preserved c =
    stands_on ranged_channel draft_of_channel ranged_view c.loop-place.place c.index-drafts-place.result _ _
    (at_place c.args.drafts.now c.loop-place.place c.index-drafts-place.result c.loop-place-test.true c.index-drafts-place.is)
    _ _ _ _ c.loop-place.invariant c.channel_ranged.ensures c.one_more-channels.ensures
