use Rattle.std.proofs.Common.{◌≡◌, length, map, take}
use Rattle.csdf_floor.specs.Work.{feeds_in}
use Rattle.csdf_run.proofs.request.lengths_of.Given as goal

abbrev pub invariant-loop-feed : goal.invariant-loop-feed
invariant-loop-feed l = l.lengths.items ≡ map length (feeds_in (take l.feed-index l.feeds))
