use Rattle.std.specs.Prelude.{◌≡◌, None}
use Rattle.csdf_crew.specs.Hand.{claim_in}
use Rattle.csdf_crew.specs.Workers.{HoldsJust, IsActor}
use Rattle.csdf_crew.proofs.worker.work.Given as goal

abbrev pub invariant-loop : goal.invariant-loop
invariant-loop g l = record {
  site : l.worker.site.now ≡ l.site;
  board : l.worker.place.board ≡ l.site.board.now.id;
  actor : IsActor l.site.board.now.actors (claim_in l.worker.hand);
  holds : HoldsJust l.worker.place.view (claim_in l.worker.hand) None;
}
