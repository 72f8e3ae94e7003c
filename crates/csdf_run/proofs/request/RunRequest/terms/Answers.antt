use Rattle.std.proofs.Common.{rules}
use Rattle.csdf_run.proofs.request.RunRequest.terms.Goals as goal

pub returns-clause-work : goal.returns-clause-work
returns-clause-work c = search rules
