use Rattle.std.proofs.Common.{subst}
use Rattle.csdf_floor.specs.Inside.{BookView, IsBook}
use Rattle.csdf_floor.proofs.Books.{has_given, may_write, may_finish, staged}
use Rattle.csdf_floor.proofs.book.Book.give.Goals as goal

pub write-requires-clause-accepted : goal.write-requires-clause-accepted
write-requires-clause-accepted c =
    let book : IsBook c.args.self.now.shown c.args.self.now.reads = subst (λ (b : BookView). IsBook b.shown b.reads) c.self.view_is c.self.invariant in
    may_write c.args.self.now.shown c.args.self.now.reads c.args.actor c.args.tokens.now book c.requires.exists c.requires.has_read c.requires.just

pub finish-requires-clause-accepted : goal.finish-requires-clause-accepted
finish-requires-clause-accepted c =
    let book : IsBook c.args.self.now.shown c.args.self.now.reads = subst (λ (b : BookView). IsBook b.shown b.reads) c.self.view_is c.self.invariant in
    may_finish c.args.self.now.shown.core.plan c.write.new.self.shown.core.plan c.args.self.now.shown.core.now c.write.new.self.shown.core.now c.args.actor
    c.args.tokens.now (staged c.args.self.now.shown c.args.self.now.reads book) c.requires.exists c.write.ensures.next.plan c.write.ensures.next.now

pub returns : goal.returns
returns c =
    let book : IsBook c.args.self.now.shown c.args.self.now.reads = subst (λ (b : BookView). IsBook b.shown b.reads) c.self.view_is c.self.invariant in
    has_given c.args.self.now c.write.new.self c.finish.new.self c.args.actor c.args.tokens.now (staged c.args.self.now.shown c.args.self.now.reads book)
    c.requires.exists c.write.ensures.next c.finish.ensures.next
