use Rattle.std.proofs.Common.{rules}
use Rattle.csdf_crew.proofs.threads.both.Goals as goal

pub returns-in-Ok : goal.returns-in-Ok
returns-in-Ok c = search rules
