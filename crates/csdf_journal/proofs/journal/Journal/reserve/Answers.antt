use Rattle.std.proofs.Common.{rules}
use Rattle.csdf_journal.proofs.journal.Journal.reserve.Goals as goal

pub returns-in_err-reserve-clause-takes_nothing : goal.returns-in_err-reserve-clause-takes_nothing
returns-in_err-reserve-clause-takes_nothing c = search rules
