use Rattle.std.proofs.Common.{◌≡◌, ◌<◌, ◌≤◌, ℕ, Some}
use Rattle.std.specs.Prelude.{slice_get, slice_index}
use Rattle.csdf_model.specs.Graph.{Channel}
use Rattle.csdf_analysis.specs.Period.{held_after}
use Rattle.csdf_analysis.proofs.run.Run.has_room.Given as goal

abbrev pub invariant-loop-number : goal.invariant-loop-number
invariant-loop-number l = (k : ℕ) → k < l.number-index → (c : Channel) → slice_get l.net.channels (slice_index l.number-items k) ≡ Some c
    → held_after c.from l.self.counts.items c ≤ slice_index l.self.bounds.items (slice_index l.number-items k)
