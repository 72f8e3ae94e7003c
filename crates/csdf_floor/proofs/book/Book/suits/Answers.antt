use Rattle.std.proofs.Common.{rules}
use Rattle.csdf_floor.proofs.book.Book.suits.Goals as goal

pub returns-clause-suits : goal.returns-clause-suits
returns-clause-suits c = λ e. record {
  actor = search rules;
  firing = search rules;
  can = rw (← c.draft.view_is) (c.can_make.ensures.can e);
}
