use Rattle.std.proofs.Common.{rules}
use Rattle.csdf_floor.proofs.lists.Lists.append_where.Goals as goal

pub returns-else-wanted : goal.returns-else-wanted
returns-else-wanted c = search rules
