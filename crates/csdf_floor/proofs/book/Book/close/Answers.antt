use Rattle.csdf_core.specs.Moves.{Close}
use Rattle.csdf_floor.proofs.Books.{book_next, next_is, close_just}
use Rattle.csdf_floor.proofs.book.Book.close.Goals as goal

pub invariant_of-self : goal.invariant_of-self
invariant_of-self c = book_next _ _ _ _ _ (Close c.args.channel) _ _ _ tt c.self.invariant c.close_tested.ensures.step
    (close_just _ _ _ _ c.self.invariant.kept (rw (← c.self.view_is) at c.requires.idle) (rw (← c.self.view_is) at c.requires.over))
    c.note_close.ensures.moves

pub returns : goal.returns
returns c = record {
  next = rw (← c.self.view_is) (next_is _ _ _ c.self.inside.journal c.note_close.new.self (Close c.args.channel) _ _ _ _ _ c.self.invariant
      c.close_tested.ensures.step c.note_close.ensures.moves c.note_close.ensures.room c.note_close.ensures.keeps);
}
