use Rattle.csdf_core.specs.Moves.{Begin}
use Rattle.csdf_floor.proofs.Books.{book_next, next_is}
use Rattle.csdf_floor.proofs.book.Book.begin.Goals as goal

pub invariant_of-self : goal.invariant_of-self
invariant_of-self c = book_next _ _ _ _ _ (Begin c.args.actor) _ _ _ tt c.self.invariant c.begin_tested.ensures.step tt c.note_begin.ensures.moves

pub returns-clause-next : goal.returns-clause-next
returns-clause-next c =
    rw (← c.self.view_is) (next_is _ _ _ c.self.inside.journal c.note_begin.new.self (Begin c.args.actor) _ _ _ _ _ c.self.invariant
    c.begin_tested.ensures.step c.note_begin.ensures.moves c.note_begin.ensures.room c.note_begin.ensures.keeps)
