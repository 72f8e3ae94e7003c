use Rattle.std.proofs.Common.{drop, map}
use Rattle.csdf_graph.specs.Shape.{actor_at, actor_view}
use Rattle.toml.specs.View.{table_view}
use Rattle.csdf_graph.specs.Passes.{each}
use Rattle.csdf_graph.proofs.PassLemmas.{Stands}
use Rattle.csdf_graph.proofs.shape.actors_of.Given as goal

abbrev pub invariant-loop-place : goal.invariant-loop-place
invariant-loop-place l = Stands actor_view l.actors (each actor_at l.place (map (λ t. table_view t.now) (drop l.place l.tables))) (each actor_at 0 (map (λ t. table_view t.now) l.tables))
