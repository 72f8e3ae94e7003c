use Rattle.std.proofs.Common.{rules}
use Rattle.csdf_disk.proofs.making.leave_at.Goals as goal

pub returns-in-Some : goal.returns-in-Some
returns-in-Some g c = search rules
