use Rattle.std.proofs.Common.{rules}
use Rattle.csdf_floor.proofs.floor.Floor.keeps_journal.Goals as goal

pub returns : goal.returns
returns c = search rules
