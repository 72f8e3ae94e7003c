use Rattle.std.proofs.Common.{rules}
use Rattle.csdf_disk.proofs.putting.part_of.Goals as goal

pub returns : goal.returns
returns c = search rules
