use Rattle.std.proofs.Common.{rules}
use Rattle.csdf_pool.proofs.pen.Pen.get.Goals as goal

pub returns : goal.returns
returns c = search rules
