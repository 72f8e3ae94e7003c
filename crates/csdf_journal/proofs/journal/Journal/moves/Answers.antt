use Rattle.std.proofs.Common.{rules}
use Rattle.csdf_journal.proofs.journal.Journal.moves.Goals as goal

pub returns : goal.returns
returns c = search rules
