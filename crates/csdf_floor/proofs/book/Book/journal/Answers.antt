use Rattle.std.proofs.Common.{rules}
use Rattle.csdf_floor.proofs.book.Book.journal.Goals as goal

pub returns-clause-honest : goal.returns-clause-honest
returns-clause-honest c = search rules

pub returns-clause-value : goal.returns-clause-value
returns-clause-value c = search rules
