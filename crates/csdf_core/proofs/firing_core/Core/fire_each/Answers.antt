use Rattle.std.proofs.Common.{◌≡◌, ◌-◌, ℕ, suc, List, length, drop, subst, sym, arith}
use Rattle.std.specs.Prelude.{ℤ}
use Rattle.std.proofs.lemmas.List.{take_all, length-drop}
use Rattle.csdf_core.specs.Step.{count}
use Rattle.csdf_core.proofs.Fired.{IsLeft, first_begins, left_step, left_none}
use Rattle.csdf_core.proofs.firing_core.Core.fire_each.Goals as goal

pub fire_next-requires-clause-begins : goal.fire_next-requires-clause-begins
fire_next-requires-clause-begins c =
    first_begins c.loop-left.self.plan c.loop-left.self.now c.args.actor (count c.loop-left.self.now c.args.actor) c.loop-left.left c.loop-left.rest.now
    c.loop-left-test.true c.loop-left.invariant.accepted

pub loop-left-preserved : goal.loop-left-preserved
loop-left-preserved c =
    let w : List ℤ = c.loop-left.rest.now in
    let g : ℕ = c.gives-given.result in
    let some = c.loop-left-test.true in
    let one : c.loop-left.left ≡ suc (c.loop-left.left - 1) = omega (arith, some) in
    let step : IsLeft c.args.actor c.args.self.now c.fire_next.new.self c.args.n c.args.tokens.now (c.loop-left.left - 1) (drop g w) =
    left_step c.args.actor c.args.self.now c.loop-left.self c.fire_next.new.self c.args.n c.args.tokens.now c.loop-left.left (c.loop-left.left - 1) w g one
    c.loop-left.invariant c.gives-given.ensures.sum c.fire_next.ensures in
    subst (λ (x : List ℤ). IsLeft c.args.actor c.args.self.now c.fire_next.new.self c.args.n c.args.tokens.now (c.loop-left.left - 1) x)
    (sym (take_all (length w - g) (drop g w) (omega (arith, length-drop g w)))) step

pub returns : goal.returns
returns c = record {
  plays = left_none c.args.actor c.args.self.now c.loop-left.self c.args.n c.args.tokens.now c.loop-left.left c.loop-left.rest.now
      (let none = c.loop-left-test.false in omega (arith, none)) c.loop-left.invariant;
}
