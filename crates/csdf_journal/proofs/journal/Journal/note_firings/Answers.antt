use Rattle.std.proofs.Common.{rules}
use Rattle.csdf_journal.proofs.journal.Journal.note_firings.Goals as goal

pub append_to-requires : goal.append_to-requires
append_to-requires c = search rules

pub returns-clause-moves : goal.returns-clause-moves
returns-clause-moves c = search rules
