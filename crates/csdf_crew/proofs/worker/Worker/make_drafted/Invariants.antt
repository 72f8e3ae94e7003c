use Rattle.std.specs.Prelude.{◌≡◌, ◌<◌, None, Some}
use Rattle.csdf_crew.specs.Workers.{HoldsJust}
use Rattle.csdf_crew.proofs.worker.Worker.make_drafted.Given as goal

abbrev pub invariant-loop : goal.invariant-loop
invariant-loop g l = record {
  site : l.self.site ≡ l.fn.self.site;
  board : l.self.place.board ≡ l.self.site.now.board.now.id;
  actor : l.claim.actor < l.self.site.now.board.now.actors;
  holds : HoldsJust l.self.place.view (Some l.claim) None;
}
