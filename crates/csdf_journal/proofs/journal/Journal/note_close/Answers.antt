use Rattle.std.proofs.Common.{rules}
use Rattle.csdf_journal.proofs.journal.Journal.note_close.Goals as goal

pub returns-clause-moves : goal.returns-clause-moves
returns-clause-moves c = search rules
