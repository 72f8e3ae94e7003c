use Rattle.std.proofs.Common.{rules}
use Rattle.csdf_core.specs.Moves.{Write}
use Rattle.csdf_floor.proofs.Books.{book_next, next_is, write_just}
use Rattle.csdf_floor.proofs.book.Book.write.Goals as goal

pub invariant_of-self : goal.invariant_of-self
invariant_of-self c = book_next _ _ _ _ _ (Write c.args.actor c.args.tokens.now) _ _ _ tt c.self.invariant c.write_tested.ensures.step
    (write_just _ _ _ _ _ c.self.invariant.kept (rw (← c.self.view_is) at c.requires.just)) c.note_write.ensures.moves

pub returns : goal.returns
returns c = record {
  next = rw (← c.self.view_is) (next_is _ _ _ c.self.inside.journal c.note_write.new.self (Write c.args.actor c.args.tokens.now) _ _ _ _ _ c.self.invariant
      c.write_tested.ensures.step c.note_write.ensures.moves c.note_write.ensures.room c.note_write.ensures.keeps);
}

pub write_tested-requires : goal.write_tested-requires
write_tested-requires c = search rules
