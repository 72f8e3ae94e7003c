use Rattle.std.proofs.Common.{◌<◌, ℕ}
use Rattle.csdf_floor.specs.Work.{IsFeed, feed_of, feeds_in}
use Rattle.csdf_floor.proofs.work.are_feeds.Given as goal

abbrev pub invariant-loop-actor : goal.invariant-loop-actor
invariant-loop-actor l = (a : ℕ) → a < l.actor → IsFeed l.graph a (feed_of (feeds_in l.feeds) a)
