use Rattle.std.proofs.Common.{rules}
use Rattle.csdf_floor.proofs.floor.Floor.journal.Goals as goal

pub returns-clause-value : goal.returns-clause-value
returns-clause-value c = search rules
