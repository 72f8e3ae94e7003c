use Rattle.std.proofs.Common.{rules}
use Rattle.csdf_disk.proofs.look.bytes_at.Goals as goal

pub returns : goal.returns
returns g c = search rules
