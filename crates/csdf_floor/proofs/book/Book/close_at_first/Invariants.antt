use Rattle.std.proofs.Common.{◌≤◌, ◌+◌, length, take}
use Rattle.std.specs.List.{range_with_len}
use Rattle.csdf_floor.specs.Inside.{AreClosed}
use Rattle.csdf_floor.proofs.book.Book.close_at_first.Given as goal

abbrev pub invariant-loop-channel : goal.invariant-loop-channel
invariant-loop-channel l = record {
  closed : AreClosed l.fn.self.shown l.self.shown (take l.channel (range_with_len 0 (length l.fn.self.shown.core.plan.channels)));
  room : length l.fn.self.shown.core.plan.channels ≤ l.self.room + l.channel;
}
