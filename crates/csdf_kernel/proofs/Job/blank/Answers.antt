use Rattle.std.proofs.Common.{rules}
use Rattle.csdf_kernel.proofs.Job.blank.Goals as goal

pub returns-clause-actor : goal.returns-clause-actor
returns-clause-actor c = search rules
