use Rattle.toml.specs.View.{table_view}
use Rattle.csdf_graph.specs.Shape.{channel_at, channel_view}
use Rattle.csdf_graph.proofs.PassLemmas.{at_place, stands_on}
use Rattle.csdf_graph.proofs.shape.channels_of.Goals as goal

pub loop-place-preserved : goal.loop-place-preserved
loop-place-preserved c =
    stands_on channel_at (λ t. table_view t.now) channel_view c.loop-place.place c.index-tables-place.result _ _
    (at_place c.args.tables.now c.loop-place.place c.index-tables-place.result c.loop-place-test.true c.index-tables-place.is)
    _ _ _ _ c.loop-place.invariant c.channel_at.ensures c.one_more-channels.ensures
