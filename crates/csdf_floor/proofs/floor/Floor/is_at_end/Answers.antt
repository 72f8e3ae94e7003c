use Rattle.std.proofs.Common.{rules}
use Rattle.csdf_floor.proofs.floor.Floor.is_at_end.Goals as goal

pub returns-then-has_counts : goal.returns-then-has_counts
returns-then-has_counts c = search rules
