use Rattle.std.proofs.Common.{rules}
use Rattle.csdf_pool.proofs.pen.Pen.new.Goals as goal

pub returns-clause-written : goal.returns-clause-written
returns-clause-written c = search rules
