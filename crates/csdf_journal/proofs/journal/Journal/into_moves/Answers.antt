use Rattle.std.proofs.Common.{rules}
use Rattle.csdf_journal.proofs.journal.Journal.into_moves.Goals as goal

pub returns : goal.returns
returns c = search rules
