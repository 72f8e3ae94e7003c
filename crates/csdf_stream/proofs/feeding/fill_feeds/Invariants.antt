use Rattle.std.proofs.Common.{◌≡◌, ℕ, ◌<◌, length, map}
use Rattle.csdf_floor.specs.Work.{AreFeeds, feeds_in}
use Rattle.csdf_stream.specs.Feeding.{AreRead, IsFullFor}
use Rattle.csdf_stream.proofs.feeding.fill_feeds.Given as goal

-- the sources so far are full
abbrev pub invariant-loop-k : goal.invariant-loop-k
invariant-loop-k g l = record {
  readers : length l.readers ≡ length l.fn.readers;
  devices : length l.devices ≡ length l.fn.devices;
  feeds : length l.feeds ≡ length l.fn.feeds;
  read : AreRead l.sources l.fn.readers l.readers (map g.I.Intake.left l.fn.devices) (map g.I.Intake.left l.devices) (feeds_in l.fn.feeds) (feeds_in l.feeds);
  fed : AreFeeds l.accepted.graph (feeds_in l.feeds);
  full : (j : ℕ) → j < l.k → IsFullFor l.accepted l.periods l.sources l.readers (map g.I.Intake.left l.devices) (feeds_in l.feeds) j;
}
