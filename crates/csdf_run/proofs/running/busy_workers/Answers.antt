use Rattle.std.proofs.Common.{rules}
use Rattle.csdf_run.proofs.running.busy_workers.Goals as goal

pub returns : goal.returns
returns c = search rules
