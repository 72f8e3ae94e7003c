use Rattle.std.proofs.Common.{subst}
use Rattle.csdf_floor.specs.Inside.{BookView, IsBook}
use Rattle.csdf_floor.proofs.Books.{has_taken, may_read, staged}
use Rattle.csdf_floor.proofs.book.Book.take.Goals as goal

pub read-requires-clause-accepted : goal.read-requires-clause-accepted
read-requires-clause-accepted c =
    may_read c.self.inside.core.plan c.begin.new.self.shown.core.plan c.self.inside.core.now c.begin.new.self.shown.core.now c.args.actor
    (staged _ _ c.self.invariant) (rw (← c.self.view_is) at c.requires.accepted) (rw (← c.self.view_is) at c.begin.ensures.next.plan)
    (rw (← c.self.view_is) at c.begin.ensures.next.now)

pub returns-clause-taken : goal.returns-clause-taken
returns-clause-taken c =
    let book : IsBook c.args.self.now.shown c.args.self.now.reads = subst (λ (b : BookView). IsBook b.shown b.reads) c.self.view_is c.self.invariant in
    has_taken c.args.self.now c.begin.new.self c.read.new.self c.args.actor book c.requires.accepted c.begin.ensures.next c.begin.ensures.reads
    c.read.ensures.next c.read.ensures.buffer c.read.ensures.tokens
