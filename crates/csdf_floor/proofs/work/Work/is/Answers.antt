use Rattle.std.proofs.Common.{rules}
use Rattle.csdf_floor.proofs.work.Work.is.Goals as goal

pub returns-then-are_same_feeds : goal.returns-then-are_same_feeds
returns-then-are_same_feeds c = search rules
