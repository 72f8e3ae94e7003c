use Rattle.std.proofs.Common.{rules}
use Rattle.csdf_floor.proofs.book.Book.draftable.Goals as goal

pub returns-clause-heavy : goal.returns-clause-heavy
returns-clause-heavy c = search rules
