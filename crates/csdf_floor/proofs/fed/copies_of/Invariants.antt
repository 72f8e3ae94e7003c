use Rattle.std.proofs.Common.{◌≡◌, ◌++◌, drop}
use Rattle.csdf_floor.specs.Work.{feeds_in}
use Rattle.csdf_floor.proofs.fed.copies_of.Given as goal

abbrev pub invariant-loop-feed : goal.invariant-loop-feed
invariant-loop-feed l = feeds_in l.copies.items ++ feeds_in (drop l.feed-index l.feeds) ≡ feeds_in l.feeds
