use Rattle.std.proofs.Common.{◌≡◌, ℕ, ◌<◌, [], length}
use Rattle.csdf_floor.specs.Work.{feed_of, feeds_in}
use Rattle.csdf_stream.proofs.flow.clear.Given as goal

abbrev pub invariant-loop-actor : goal.invariant-loop-actor
invariant-loop-actor l = record {
  many : length l.feeds ≡ length l.fn.feeds;
  none : (i : ℕ) → i < l.actor → feed_of (feeds_in l.feeds) i ≡ [];
}
