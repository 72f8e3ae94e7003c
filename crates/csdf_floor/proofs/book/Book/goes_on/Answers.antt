use Rattle.std.proofs.Common.{rules}
use Rattle.csdf_floor.proofs.book.Book.goes_on.Goals as goal

pub returns-clause-other : goal.returns-clause-other
returns-clause-other c = search rules
