use Rattle.std.proofs.Common.{rules}
use Rattle.csdf_told.proofs.telling.tell_made.Goals as goal

pub returns-clause-silent : goal.returns-clause-silent
returns-clause-silent g c = search rules
