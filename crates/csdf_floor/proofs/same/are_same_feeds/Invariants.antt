use Rattle.std.proofs.Common.{◌≡◌, take}
use Rattle.csdf_floor.specs.Work.{feeds_in}
use Rattle.csdf_floor.proofs.same.are_same_feeds.Given as goal

abbrev pub invariant-loop-i : goal.invariant-loop-i
invariant-loop-i l = take l.i (feeds_in l.fn.left) ≡ take l.i (feeds_in l.fn.right)
