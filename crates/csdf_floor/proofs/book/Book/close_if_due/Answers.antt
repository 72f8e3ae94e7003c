use Rattle.std.proofs.Common.{rules}
use Rattle.csdf_floor.proofs.book.Book.close_if_due.Goals as goal

pub close-requires-clause-over : goal.close-requires-clause-over
close-requires-clause-over c = search rules

pub returns-then-is_over-clause-other : goal.returns-then-is_over-clause-other
returns-then-is_over-clause-other c = search rules

pub returns-else-is_open-clause-due : goal.returns-else-is_open-clause-due
returns-else-is_open-clause-due c = search rules
