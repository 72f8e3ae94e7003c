use Rattle.std.proofs.Common.{rules}
use Rattle.csdf_floor.proofs.lists.Lists.lists.Goals as goal

pub returns : goal.returns
returns c = search rules
