use Rattle.std.proofs.Common.{drop, map}
use Rattle.csdf_graph.specs.Ranges.{ranged_actor}
use Rattle.csdf_graph.specs.Shape.{actor_view as draft_of_actor}
use Rattle.csdf_model.specs.Graph.{actor_view}
use Rattle.csdf_graph.specs.Passes.{each}
use Rattle.csdf_graph.proofs.PassLemmas.{Stands}
use Rattle.csdf_graph.proofs.ranges.ranged_actors.Given as goal

abbrev pub invariant-loop-place : goal.invariant-loop-place
invariant-loop-place l = Stands actor_view l.actors (each ranged_actor l.place (map draft_of_actor (drop l.place l.drafts))) (each ranged_actor 0 (map draft_of_actor l.drafts))
