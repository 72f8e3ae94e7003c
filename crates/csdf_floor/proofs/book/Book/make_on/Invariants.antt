use Rattle.std.proofs.Common.{◌≤◌, ◌<◌, length}
use Rattle.csdf_core.specs.Ports.{outputs_at}
use Rattle.csdf_floor.specs.Making.{HasMade, made_moves}
use Rattle.csdf_floor.proofs.book.Book.make_on.Given as goal

abbrev pub invariant-loop-block : goal.invariant-loop-block
invariant-loop-block l = record {
  some : 0 < l.made;
  most : l.made ≤ l.most;
  made : HasMade l.fn.self.shown l.self.shown l.actor l.made (made_moves l.fn.self.shown l.actor l.made);
  room : length (outputs_at l.fn.self.shown.core.plan.channels l.actor) ≤ l.self.room;
}
