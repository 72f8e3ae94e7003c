use Rattle.std.proofs.Common.{arith}
use Rattle.std.proofs.lemmas.Grind.{common_steps}
use Rattle.csdf_floor.proofs.book.Book.core.Goals as goal

pub returns-clause-book : goal.returns-clause-book
returns-clause-book c = grind (arith, common_steps)
