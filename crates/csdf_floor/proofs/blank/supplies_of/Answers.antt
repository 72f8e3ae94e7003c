use Rattle.std.proofs.lemmas.Grind.{common_steps}
use Rattle.std.proofs.Common.{arith}
use Rattle.csdf_floor.proofs.Works.{feed_short}
use Rattle.csdf_floor.proofs.blank.supplies_of.Goals as goal

pub overflow_cast-len : goal.overflow_cast-len
overflow_cast-len c = omega (
  arith,
  c.len.ensures,
  feed_short c.args.feeds.now 1000000 c.loop-feed.feed-index c.feed-item.result c.requires c.loop-feed-test.true c.feed-item.is,
  c.feed-item.result.ok.0,
)

pub loop-feed-preserved : goal.loop-feed-preserved
loop-feed-preserved c = grind (arith, common_steps)

pub returns : goal.returns
returns c = grind (arith, common_steps)
