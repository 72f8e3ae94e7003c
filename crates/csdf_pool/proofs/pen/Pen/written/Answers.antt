use Rattle.std.proofs.Common.{rules}
use Rattle.csdf_pool.proofs.pen.Pen.written.Goals as goal

pub returns : goal.returns
returns c = search rules
