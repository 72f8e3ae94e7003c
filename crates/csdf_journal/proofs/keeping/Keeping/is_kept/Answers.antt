use Rattle.std.proofs.Common.{rules}
use Rattle.csdf_journal.proofs.keeping.Keeping.is_kept.Goals as goal

pub returns-in_default : goal.returns-in_default
returns-in_default c = search rules
