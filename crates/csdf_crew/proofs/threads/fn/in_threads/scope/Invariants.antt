use Rattle.std.specs.Prelude.{◌≡◌, ℕ, ◌<◌, ◌≤◌, ◌+◌, get_or, length, vec_capacity}
use Rattle.std.specs.Vec.Iter.{into_iter_items}
use Rattle.csdf_crew.specs.Workers.{HoldsNothing}
use Rattle.csdf_crew.proofs.threads.fn.in_threads.scope.Given as goal

abbrev pub invariant-loop-place : goal.invariant-loop-place
invariant-loop-place g l =
    let rest = into_iter_items l.place-iterator in
    record {
      places : (k : ℕ) (d : _) → k < length rest → ((get_or rest k d).board ≡ l.board.id) × HoldsNothing (get_or rest k d).view;
      handles : (k : ℕ) (d : _) → k < length l.handles.items → (get_or l.handles.items k d).promise.0.now.id ≡ l.board.id;
      room : length l.handles.items + length rest ≤ vec_capacity l.handles;
      few : length l.handles.items + length rest ≤ l.count;
    }
