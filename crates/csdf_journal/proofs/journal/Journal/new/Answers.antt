use Rattle.std.proofs.Common.{rules}
use Rattle.csdf_journal.proofs.journal.Journal.new.Goals as goal

pub returns-clause-keeps : goal.returns-clause-keeps
returns-clause-keeps c = search rules
