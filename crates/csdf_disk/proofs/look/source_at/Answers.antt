use Rattle.std.proofs.Common.{rules}
use Rattle.csdf_disk.proofs.look.source_at.Goals as goal

pub returns-in-Ok-clause-opened : goal.returns-in-Ok-clause-opened
returns-in-Ok-clause-opened g c = search rules
