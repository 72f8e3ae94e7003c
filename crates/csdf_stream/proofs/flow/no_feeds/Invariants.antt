use Rattle.std.proofs.Common.{◌≡◌, length}
use Rattle.csdf_floor.specs.Work.{feeds_in}
use Rattle.csdf_stream.specs.Flowing.{IsNoneFed}
use Rattle.csdf_stream.proofs.flow.no_feeds.Given as goal

abbrev pub invariant-loop-made : goal.invariant-loop-made
invariant-loop-made l = record {
  many : length l.feeds.items ≡ l.made;
  none : IsNoneFed (feeds_in l.feeds.items);
}
