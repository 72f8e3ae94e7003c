use Rattle.std.proofs.Common.{map, string_bytes}
use Rattle.std.specs.Vec.Iter.{into_iter_items}
use Rattle.csdf_graph.specs.Passes.{each}
use Rattle.csdf_model.specs.Graph.{channel_view}
use Rattle.csdf_graph.specs.Ranges.{ranged_view}
use Rattle.csdf_graph.specs.Links.{linked_at}
use Rattle.csdf_graph.proofs.PassLemmas.{Stands}
use Rattle.csdf_graph.proofs.links.linked_channels.Given as goal

abbrev pub invariant-loop-place : goal.invariant-loop-place
invariant-loop-place l = Stands channel_view l.linked
    (each (linked_at (map string_bytes l.names.keys)) l.place-iterator.count (map ranged_view (into_iter_items l.place-iterator.iter)))
    (each (linked_at (map string_bytes l.names.keys)) 0 (map ranged_view l.fn.channels.items))
