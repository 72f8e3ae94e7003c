use Rattle.std.proofs.lemmas.Grind.{common_steps}
use Rattle.std.proofs.Common.{◌≤◌, ℕ, subst, arith, length}
use Rattle.csdf_core.specs.Plan.{Plan}
use Rattle.csdf_core.specs.Ports.{outputs_at}
use Rattle.csdf_floor.specs.Floor.{FloorView}
use Rattle.csdf_floor.specs.Inside.{BookView, IsBook}
use Rattle.csdf_core.proofs.Runs.{on_err}
use Rattle.csdf_floor.proofs.MoreFirings.{made_more}
use Rattle.csdf_floor.proofs.book.Book.make_on.Goals as goal

pub loop-block-preserved : goal.loop-block-preserved
loop-block-preserved c =
    let f : FloorView = c.args.self.now.shown in
    let mid : FloorView = c.loop-block.self.shown in
    let a : ℕ = c.args.actor in
    let book : IsBook f c.args.self.now.reads = subst (λ (b : BookView). IsBook b.shown b.reads) c.self.view_is c.self.invariant in
    record {
      some = omega (arith, c.loop-block.invariant.some);
      most = omega (arith, c.loop-block.invariant.most, c.make_more-more.ensures.most);
      made = made_more f mid c.make_more-more.new.self.shown a c.loop-block.made c.make_more-more.result book.kept c.make_more-more.ensures.before
          c.requires.exists c.loop-block.invariant.made c.make_more-more.ensures.made;
      room = subst (λ (u : Plan). length (outputs_at u.channels a) ≤ c.make_more-more.new.self.room) c.loop-block.invariant.made.plan
          c.make_more-more.ensures.room;
    }

pub make_more-more-requires-clause-exists : goal.make_more-more-requires-clause-exists
make_more-more-requires-clause-exists c = grind (arith, common_steps)

pub loop-block-init : goal.loop-block-init
loop-block-init c = record {
  some = c.in_ok-n.ensures.some;
  most = (let few = c.requires.few in omega (arith, few, c.in_ok-n.ensures.most));
  made = c.in_ok-n.ensures.made;
  room = c.in_ok-n.ensures.room;
}

pub overflow_add-made : goal.overflow_add-made
overflow_add-made c = omega (arith, c.make_more-more.ensures.most, c.loop-block.invariant.most, c.ranges.most.fits)

pub returns-after-loop-block-clause-made : goal.returns-after-loop-block-clause-made
returns-after-loop-block-clause-made c = c.loop-block.invariant.made

pub returns-in_err-n-clause-unchanged : goal.returns-in_err-n-clause-unchanged
returns-in_err-n-clause-unchanged c = on_err _ _ c.in_err-n.ensures.unchanged
