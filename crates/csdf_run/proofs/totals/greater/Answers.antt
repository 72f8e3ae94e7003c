use Rattle.std.proofs.Common.{rules}
use Rattle.csdf_run.proofs.totals.greater.Goals as goal

pub returns-else-a-b : goal.returns-else-a-b
returns-else-a-b c = search rules
