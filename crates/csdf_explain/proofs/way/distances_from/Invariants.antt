use Rattle.std.proofs.Common.{map}
use Rattle.csdf_model.specs.Graph.{channel_view}
use Rattle.csdf_explain.specs.Distances.{unknown_count}
use Rattle.csdf_explain.proofs.DistanceLemmas.{Found}
use Rattle.csdf_explain.proofs.way.distances_from.Given as goal

abbrev pub invariant-loop-count : goal.invariant-loop-count
invariant-loop-count l = Found (map channel_view l.channels) l.actors l.start l.count l.distances.items

abbrev pub decreases-loop-count : goal.decreases-loop-count
decreases-loop-count l = unknown_count l.distances.items
