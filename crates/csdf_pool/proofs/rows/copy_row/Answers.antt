use Rattle.std.proofs.Common.{rules}
use Rattle.csdf_pool.proofs.rows.copy_row.Goals as goal

pub returns-clause-last : goal.returns-clause-last
returns-clause-last c = search rules
