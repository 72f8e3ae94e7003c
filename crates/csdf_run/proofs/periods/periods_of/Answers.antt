use Rattle.std.proofs.Common.{rules}
use Rattle.csdf_run.proofs.periods.periods_of.Goals as goal

pub returns-in-UntilDry : goal.returns-in-UntilDry
returns-in-UntilDry c = search rules
