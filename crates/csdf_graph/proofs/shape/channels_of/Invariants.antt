use Rattle.std.proofs.Common.{drop, map}
use Rattle.csdf_graph.specs.Shape.{channel_at, channel_view}
use Rattle.toml.specs.View.{table_view}
use Rattle.csdf_graph.specs.Passes.{each}
use Rattle.csdf_graph.proofs.PassLemmas.{Stands}
use Rattle.csdf_graph.proofs.shape.channels_of.Given as goal

abbrev pub invariant-loop-place : goal.invariant-loop-place
invariant-loop-place l = Stands channel_view l.channels (each channel_at l.place (map (λ t. table_view t.now) (drop l.place l.tables))) (each channel_at 0 (map (λ t. table_view t.now) l.tables))
