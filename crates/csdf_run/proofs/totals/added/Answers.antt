use Rattle.std.proofs.Common.{rules}
use Rattle.csdf_run.proofs.totals.added.Goals as goal

pub returns : goal.returns
returns c = search rules
