use Rattle.csdf_core.specs.Moves.{Finish}
use Rattle.csdf_floor.proofs.Books.{book_next, next_is}
use Rattle.csdf_floor.proofs.book.Book.finish.Goals as goal

pub invariant_of-self : goal.invariant_of-self
invariant_of-self c = book_next _ _ _ _ _ (Finish c.args.actor) _ _ _ tt c.self.invariant c.finish_tested.ensures.step tt c.note_finish.ensures.moves

pub returns : goal.returns
returns c = record {
  next = rw (← c.self.view_is) (next_is _ _ _ c.self.inside.journal c.note_finish.new.self (Finish c.args.actor) _ _ _ _ _ c.self.invariant
      c.finish_tested.ensures.step c.note_finish.ensures.moves c.note_finish.ensures.room c.note_finish.ensures.keeps);
}
