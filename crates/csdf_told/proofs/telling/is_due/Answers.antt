use Rattle.std.proofs.Common.{rules}
use Rattle.csdf_told.proofs.telling.is_due.Goals as goal

pub returns : goal.returns
returns c = search rules
