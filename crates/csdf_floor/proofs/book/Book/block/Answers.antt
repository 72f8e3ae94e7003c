use Rattle.csdf_floor.proofs.book.Book.block.Goals as goal

pub returns-clause-block : goal.returns-clause-block
returns-clause-block c = rw (← c.self.view_is) (record {
  can = c.ahead.ensures.can;
  needed = c.ahead.ensures.needed;
  given = c.ahead.ensures.given;
})

pub returns-clause-some : goal.returns-clause-some
returns-clause-some c = rw (← c.self.view_is) (λ some begins. c.ahead.ensures.some some begins)
