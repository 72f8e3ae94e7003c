use Rattle.std.proofs.Common.{arith, ap, length, length-append, ◌∷◌, []}
use Rattle.csdf_stream.proofs.FeedLemmas.{none_pushed}
use Rattle.csdf_stream.proofs.flow.no_feeds.Goals as goal

pub loop-made-preserved : goal.loop-made-preserved
loop-made-preserved c = record {
  many = omega (arith, ap length c.in_ok-push.ensures.items, length-append c.loop-made.feeds.items (c.new.result ∷ []), c.loop-made.invariant.many);
  none = none_pushed c.loop-made.feeds.items c.push.new.self.items c.new.result c.loop-made.invariant.none c.in_ok-push.ensures.items c.new.ensures.items;
}
