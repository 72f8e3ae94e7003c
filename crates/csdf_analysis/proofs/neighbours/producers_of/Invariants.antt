use Rattle.std.proofs.Common.{◌≡◌, ◌<◌, ℕ, Some, length}
use Rattle.std.specs.Prelude.{slice_get, slice_index}
use Rattle.csdf_model.specs.Graph.{Channel}
use Rattle.csdf_analysis.specs.Waking.{AreActors, IsProducerTo, IsIn}
use Rattle.csdf_analysis.proofs.neighbours.producers_of.Given as goal

abbrev pub invariant-loop-number : goal.invariant-loop-number
invariant-loop-number l = record {
  so_far : (k : ℕ) → k < l.number-index → (c : Channel) → slice_get l.graph.channels (slice_index l.number-items k) ≡ Some c → IsIn l.mask c.from;
  only : (b : ℕ) → IsIn l.mask b → IsProducerTo l.graph.channels l.actor b;
  actors : AreActors (length l.graph.actors) l.mask;
}
