use Rattle.std.proofs.Common.{rules}
use Rattle.csdf_pool.proofs.rows.walk_of.Goals as goal

pub returns-clause-no_row : goal.returns-clause-no_row
returns-clause-no_row c = search rules
