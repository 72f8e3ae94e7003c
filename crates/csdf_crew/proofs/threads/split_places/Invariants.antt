use Rattle.std.proofs.Common.{◌≡◌, length}
use Rattle.std.specs.Prelude.{All}
use Rattle.csdf_claims.specs.Face.{PlaceFace}
use Rattle.csdf_crew.specs.Workers.{HoldsNothing}
use Rattle.csdf_crew.proofs.threads.split_places.Given as goal

abbrev pub invariant-loop-other : goal.invariant-loop-other
invariant-loop-other l = record {
  same : l.place ≡ l.fn.place;
  count : length l.places.items ≡ l._other;
  places : All (λ (p : PlaceFace). (p.board ≡ l.board.id) × HoldsNothing p.view) l.places.items;
}
