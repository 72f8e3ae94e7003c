use Rattle.std.proofs.Common.{rules}
use Rattle.csdf_floor.proofs.book.Book.make_many_from.Goals as goal

pub returns-then-suits-clause-made : goal.returns-then-suits-clause-made
returns-then-suits-clause-made c = search rules

pub returns-then-suits-clause-some : goal.returns-then-suits-clause-some
returns-then-suits-clause-some c = search rules
