use Rattle.std.proofs.Common.{◌≡◌, ◌*◌, length, map}
use Rattle.std.specs.Prelude.{EachIndex, slice_index}
use Rattle.csdf_model.specs.Graph.{actor_view, phases_of}
use Rattle.csdf_analysis.proofs.calls.repetition.firings.Given as goal

abbrev pub invariant-loop-number : goal.invariant-loop-number
invariant-loop-number l = record {
  so_far : length l.q.items ≡ l.number;
  firings : EachIndex l.q.items (λ a. slice_index l.q.items a ≡ phases_of (map actor_view l.actors) a * slice_index l.r a);
}
