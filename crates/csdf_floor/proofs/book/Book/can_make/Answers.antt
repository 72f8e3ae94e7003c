use Rattle.std.proofs.Common.{ℕ, subst}
use Rattle.csdf_core.specs.Engine.{CanFire}
use Rattle.csdf_floor.proofs.book.Book.can_make.Goals as goal

pub returns : goal.returns
returns c = record {
  can = λ e. subst (λ (n : ℕ). CanFire c.args.self.now.shown.core.plan c.args.self.now.shown.core.now c.args.actor n) c.if-block-n.false
      c.block.ensures.block.can;
}
