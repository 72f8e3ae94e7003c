use Rattle.std.proofs.Common.{rules}
use Rattle.csdf_told.proofs.telling.tell_end.Goals as goal

pub returns-clause-told : goal.returns-clause-told
returns-clause-told g c = search rules
