use Rattle.std.proofs.Common.{refl, subst}
use Rattle.csdf_floor.specs.Inside.{BookView, IsBook}
use Rattle.csdf_floor.proofs.MoreFirings.{made_none}
use Rattle.csdf_floor.proofs.book.Book.make_more.Goals as goal

pub returns-then-block-eq0-clause-made : goal.returns-then-block-eq0-clause-made
returns-then-block-eq0-clause-made c = made_none c.args.self.now.shown c.args.self.now.shown c.args.actor refl

pub returns-in-Err-clause-made : goal.returns-in-Err-clause-made
returns-in-Err-clause-made c = made_none c.args.self.now.shown c.make_block.new.self.shown c.args.actor c.in-Err.ensures.unchanged

pub returns-then-block-eq0-clause-before : goal.returns-then-block-eq0-clause-before
returns-then-block-eq0-clause-before c = (subst (λ (b : BookView). IsBook b.shown b.reads) c.self.view_is c.self.invariant).kept.honest

pub returns-in-Ok-clause-before : goal.returns-in-Ok-clause-before
returns-in-Ok-clause-before c = (subst (λ (b : BookView). IsBook b.shown b.reads) c.self.view_is c.self.invariant).kept.honest

pub returns-in-Err-clause-before : goal.returns-in-Err-clause-before
returns-in-Err-clause-before c = (subst (λ (b : BookView). IsBook b.shown b.reads) c.self.view_is c.self.invariant).kept.honest
