use Rattle.std.proofs.Common.{◌≡◌, take}
use Rattle.csdf_floor.specs.Work.{feeds_in}
use Rattle.csdf_floor.proofs.book.Book.left.Given as goal

abbrev pub invariant-loop-channel : goal.invariant-loop-channel
invariant-loop-channel l = feeds_in l.left.items ≡ take l.channel l.fn.self.shown.core.now.tokens
