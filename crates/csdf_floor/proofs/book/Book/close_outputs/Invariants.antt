use Rattle.std.proofs.Common.{◌≤◌, ◌+◌, length, take}
use Rattle.csdf_core.specs.Ports.{outputs_at}
use Rattle.csdf_floor.specs.Inside.{AreClosed}
use Rattle.csdf_floor.proofs.book.Book.close_outputs.Given as goal

abbrev pub invariant-loop-place : goal.invariant-loop-place
invariant-loop-place l = record {
  closed : AreClosed l.fn.self.shown l.self.shown (take l.place (outputs_at l.fn.self.shown.core.plan.channels l.actor));
  room : length (outputs_at l.fn.self.shown.core.plan.channels l.actor) ≤ l.self.room + l.place;
}
