use Rattle.std.proofs.Common.{drop, map}
use Rattle.csdf_graph.specs.Ranges.{ranged_channel, ranged_view}
use Rattle.csdf_graph.specs.Shape.{channel_view as draft_of_channel}
use Rattle.csdf_graph.specs.Passes.{each}
use Rattle.csdf_graph.proofs.PassLemmas.{Stands}
use Rattle.csdf_graph.proofs.ranges.ranged_channels.Given as goal

abbrev pub invariant-loop-place : goal.invariant-loop-place
invariant-loop-place l = Stands ranged_view l.channels (each ranged_channel l.place (map draft_of_channel (drop l.place l.drafts))) (each ranged_channel 0 (map draft_of_channel l.drafts))
