use Rattle.std.proofs.Common.{◌≡◌, take}
use Rattle.csdf_floor.proofs.book.Book.has_counts.Given as goal

abbrev pub invariant-loop-actor : goal.invariant-loop-actor
invariant-loop-actor l = take l.actor l.totals ≡ take l.actor l.fn.self.shown.core.now.counts
