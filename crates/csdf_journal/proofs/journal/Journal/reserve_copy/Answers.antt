use Rattle.std.proofs.Common.{rules}
use Rattle.csdf_journal.proofs.journal.Journal.reserve_copy.Goals as goal

pub returns-else-keeps-clause-width : goal.returns-else-keeps-clause-width
returns-else-keeps-clause-width c = search rules
