use Rattle.std.proofs.Common.{◌≡◌, ◌++◌, ℕ, List, Some, map}
use Rattle.csdf_model.specs.Graph.{channel_view}
use Rattle.csdf_explain.specs.Distances.{AreDistances, distance_at}
use Rattle.csdf_explain.proofs.WayLemmas.{IsFirstDown}
use Rattle.csdf_explain.proofs.way.way_down.Given as goal

abbrev pub invariant-loop-left : goal.invariant-loop-left
invariant-loop-left l = (start : ℕ) → AreDistances (map channel_view l.channels) start l.distances → distance_at l.distances l.from ≡ Some l.count
    → (distance_at l.distances l.actor ≡ Some l.left)
    × ((rest : List ℕ) → IsFirstDown (map channel_view l.channels) start l.actor l.left rest
    → IsFirstDown (map channel_view l.channels) start l.from l.count (l.way.items ++ rest))

abbrev pub decreases-loop-left : goal.decreases-loop-left
decreases-loop-left l = l.left
