use Rattle.std.proofs.Common.{◌≡◌}
use Rattle.std.specs.Prelude.{None}
use Rattle.csdf_claims.specs.Board.{KeepsJust}
use Rattle.csdf_crew.specs.Workers.{HoldsJust}
use Rattle.csdf_crew.proofs.claims.claim_among.Given as goal

abbrev pub invariant-loop : goal.invariant-loop
invariant-loop l = record {
  board : l.place.board ≡ l.board.id;
  holds : HoldsJust l.place.view l.beside None;
  just : KeepsJust l.fn.place.view l.place.view;
}
