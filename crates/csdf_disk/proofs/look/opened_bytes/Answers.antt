use Rattle.std.proofs.Common.{rules}
use Rattle.csdf_disk.proofs.look.opened_bytes.Goals as goal

pub returns-in-Err-clause-unopened : goal.returns-in-Err-clause-unopened
returns-in-Err-clause-unopened g c = search rules
