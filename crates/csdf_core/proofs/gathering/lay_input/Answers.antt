use Rattle.std.proofs.lemmas.Grind.{common_steps}
use Rattle.std.proofs.Common.{◌≡◌, ◌<◌, ◌+◌, ◌-◌, ◌++◌, ℕ, suc, List, length, take, drop, get_or, ap, ap₂, subst, sym, ◌∙◌, rules, arith}
use Rattle.std.specs.Prelude.{ℤ, sum_by}
use Rattle.std.proofs.lemmas.Slice.{overwrites}
use borrow.Rule.Slice.PartMut.{put_mid}
use Rattle.csdf_core.specs.Blocks.{put_from}
use Rattle.csdf_core.specs.Blocks.{takes_at}
use Rattle.csdf_core.specs.Engine.{filled}
use Rattle.csdf_core.specs.Phases.{IsInPhase}
use Rattle.csdf_core.specs.Ports.{inputs_at, take_at}
use Rattle.csdf_core.proofs.BlockReads.{laid_step, needs_left}
use Rattle.std.proofs.lemmas.List.{take_all}
use Rattle.csdf_core.proofs.FilledUp.{drop-filled, take-filled, length-filled}
use Rattle.csdf_core.proofs.PortLemmas.{need_is}
use Rattle.csdf_core.proofs.gathering.lay_input.Goals as goal

pub loop-firing-preserved : goal.loop-firing-preserved
loop-firing-preserved c =
    let cs = c.args.plan.now.channels in
    let ins : List ℕ = inputs_at cs c.args.actor in
    let j : ℕ = c.args.place in
    let k : ℕ = c.loop-firing.next.firing in
    let at : ℕ = c.loop-firing.at in
    let end : ℕ = c.loop-firing.at + c.loop-firing.slot.need in
    let new : List ℤ = put_mid c.loop-firing.at (c.loop-firing.at + c.loop-firing.slot.need - c.loop-firing.at) c.loop-firing.into c.put_next.new.into in
    let front : take (c.loop-firing.at + c.loop-firing.slot.need)
    (put_mid c.loop-firing.at (c.loop-firing.at + c.loop-firing.slot.need - c.loop-firing.at) c.loop-firing.into c.put_next.new.into) ≡ take
    c.loop-firing.at c.loop-firing.into ++ c.put_next.new.into = search (rules, overwrites) in
    let back : drop (c.loop-firing.at + c.loop-firing.slot.need)
    (put_mid c.loop-firing.at (c.loop-firing.at + c.loop-firing.slot.need - c.loop-firing.at) c.loop-firing.into c.put_next.new.into) ≡ drop
    (c.loop-firing.at + c.loop-firing.slot.need) c.loop-firing.into = search (rules, overwrites) in
    let size : length (put_mid c.loop-firing.at (c.loop-firing.at + c.loop-firing.slot.need - c.loop-firing.at) c.loop-firing.into c.put_next.new.into) ≡
    length c.loop-firing.into = search (rules, overwrites) in
    let c0 : ℕ = get_or ins j 0 in
    let rest : ℕ = c.args.n - (c.loop-firing._firing + 1) in
    let later : ℕ = c.turn_after-after.result.firing in
    let some : ℕ = take_at cs k c0 in
    let all : takes_at cs k (c.args.n - c.loop-firing._firing) c0 ≡ some + takes_at cs later rest c0 =
    ap (λ (x : ℕ). takes_at cs k x c0) (let e : c.args.n - c.loop-firing._firing ≡ suc rest = (let lt = c.loop-firing-test.true in omega (arith, lt)) in e)
    ∙ ap (λ (x : ℕ). some + takes_at cs x rest c0) (let f = c.turn_after-after.ensures.firing in let e : suc k ≡ later = omega (arith, f) in e) in
    let tokens : List ℤ = filled (takes_at cs k (c.args.n - c.loop-firing._firing) c0) c.loop-firing.tokens in
    let others : List ℤ = filled (takes_at cs later rest c0) c.put_next.new.tokens in
    let taken : c.loop-firing.slot.taken ≡ some = c.loop-firing.invariant.slot.taken_is in
    let left : others ≡ drop some tokens =
    ap (filled (takes_at cs later rest c0)) (c.put_next.ensures.left ∙ ap (λ (x : ℕ). drop x c.loop-firing.tokens) taken)
    ∙ sym (drop-filled some (takes_at cs later rest c0) c.loop-firing.tokens)
    ∙ ap (λ (x : ℕ). drop some (filled x c.loop-firing.tokens)) (sym all) in
    let chunk : List ℤ = take (c.loop-firing.at + c.loop-firing.slot.need - c.loop-firing.at) (drop c.loop-firing.at c.loop-firing.into) in
    let first : take some (filled some c.loop-firing.tokens) ≡ take some tokens =
    take_all some (filled some c.loop-firing.tokens) (omega (arith, length-filled some c.loop-firing.tokens))
    ∙ sym (take-filled some (takes_at cs later rest c0) c.loop-firing.tokens)
    ∙ ap (λ (x : ℕ). take some (filled x c.loop-firing.tokens)) (sym all) in
    let put = c.put_next.ensures.put
    ∙ ap₂ (λ (x y : ℕ). put_from x y (filled y c.loop-firing.tokens) chunk) c.loop-firing.invariant.slot.from_is taken
    ∙ ap (λ (u : List ℤ). take (sum_by (take_at cs k) (take j ins)) chunk ++ u ++ drop (sum_by (take_at cs k) (take j ins) + some) chunk) first in
    record {
      firing = omega (arith, c.turn_after-after.ensures.firing, c.loop-firing.invariant.firing);
      in_phase = subst (λ (x : ℕ). IsInPhase c.args.plan.now.channels c.args.actor x c.turn_after-after.result.phase) (sym c.turn_after-after.ensures.firing)
          c.turn_after-after.ensures.in_phase;
      low = c.turn_after-after.ensures.low;
      slot = c.slot_after-slot.ensures.slot;
      small = c.slot_after-slot.ensures.small;
      few = omega (arith, c.loop-firing.invariant.few, c.loop-firing.invariant.small);
      all = needs_left cs c.args.actor k _ c.args.n c.loop-firing._firing at c.loop-firing.slot.need _ c.loop-firing-test.true c.loop-firing.invariant.slot.all_is
          c.turn_after-after.ensures.firing c.loop-firing.invariant.all ∙ sym size;
      laid = laid_step cs ins (take j ins) (get_or ins j 0) k _ c.args.n c.loop-firing._firing at c.loop-firing.slot.need tokens others c.put_next.new.into
          c.loop-firing.into _ _ c.loop-firing-test.true (c.loop-firing.invariant.slot.all_is ∙ sym (need_is c.args.actor k cs)) c.turn_after-after.ensures.firing
          left front put back c.loop-firing.invariant.laid;
    }

pub loop-firing-init : goal.loop-firing-init
loop-firing-init c = grind (arith, common_steps)

pub overflow_add-end : goal.overflow_add-end
overflow_add-end c = grind (arith, common_steps)

pub loop-firing-smaller : goal.loop-firing-smaller
loop-firing-smaller c = grind (arith, common_steps)

pub returns : goal.returns
returns c = grind (arith, common_steps)

pub slot_after-slot-requires-clause-in_phase : goal.slot_after-slot-requires-clause-in_phase
slot_after-slot-requires-clause-in_phase c = grind (arith, common_steps)

pub turn_after-after-requires-clause-in_phase : goal.turn_after-after-requires-clause-in_phase
turn_after-after-requires-clause-in_phase c = grind (arith, common_steps)

pub tokens-tokens-requires : goal.tokens-tokens-requires
tokens-tokens-requires c =
    let place : c.args.place < length c.inputs.result.now = rw c.inputs.ensures.value c.requires.place in
    rw c.requires.same (c.inputs.ensures.within c.args.place 0 place)

pub turn_after-after-requires-clause-few : goal.turn_after-after-requires-clause-few
turn_after-after-requires-clause-few c = omega (arith, c.loop-firing.invariant.firing, c.loop-firing-test.true, c.requires.few)

pub slot_after-slot-requires-clause-slot : goal.slot_after-slot-requires-clause-slot
slot_after-slot-requires-clause-slot c = c.loop-firing.invariant.slot
