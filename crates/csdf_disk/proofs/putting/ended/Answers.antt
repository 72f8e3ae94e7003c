use Rattle.std.proofs.Common.{rules}
use Rattle.csdf_disk.proofs.putting.ended.Goals as goal

pub returns-then-is_err-clause-well : goal.returns-then-is_err-clause-well
returns-then-is_err-clause-well c = search rules
