use Rattle.csdf_model.specs.Graph.{actor_view}
use Rattle.csdf_graph.specs.Shape.{actor_view as draft_of_actor}
use Rattle.csdf_graph.specs.Ranges.{ranged_actor}
use Rattle.csdf_graph.proofs.PassLemmas.{at_place, stands_on}
use Rattle.csdf_graph.proofs.ranges.ranged_actors.Goals as goal

pub loop-place-preserved : goal.loop-place-preserved
loop-place-preserved c =
    stands_on ranged_actor draft_of_actor actor_view c.loop-place.place c.index-drafts-place.result _ _
    (at_place c.args.drafts.now c.loop-place.place c.index-drafts-place.result c.loop-place-test.true c.index-drafts-place.is)
    _ _ _ _ c.loop-place.invariant c.ranged_actor.ensures c.one_more-actors.ensures
