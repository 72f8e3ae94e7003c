use Rattle.std.proofs.lemmas.Grind.{common_steps}
use Rattle.std.proofs.Common.{◌≡◌, ◌<◌, ◌≤◌, ◌+◌, ◌-◌, ◌++◌, ℕ, List, length, drop, take, ap, subst, sym, refl, ◌∙◌, arith, append-nil}
use Rattle.std.specs.Prelude.{ℤ}
use Rattle.std.proofs.lemmas.List.{length-append, length-drop, take_all}
use Rattle.csdf_core.specs.Blocks.{gifts_of}
use Rattle.csdf_core.specs.Rows.{gift}
use Rattle.csdf_floor.specs.Journal.{Program}
use Rattle.csdf_floor.specs.Making.{amounts_of, phase_value, phase_values}
use Rattle.csdf_floor.specs.Work.{program}
use Rattle.csdf_floor.proofs.PhaseValues.{amounts_less, amounts_one, gifts_less, gifts_one, length_phase, phases_more}
use Rattle.csdf_floor.proofs.work.Work.push_phases.Goals as goal

-- a list from a place on
from_on : (xs : List ℤ) (at : ℕ) → take (length xs - at) (drop at xs) ≡ drop at xs
from_on xs at = take_all (length xs - at) (drop at xs) (let d = length-drop at xs in omega (arith, d))

pub push_phase-requires-clause-tokens : goal.push_phase-requires-clause-tokens
push_phase-requires-clause-tokens c =
    let last : ℕ = c.fired-first.result + c.args.n in
    let k : ℕ = c.loop-firing.turn.firing in
    let lt : k < last = omega (arith, c.loop-firing-test.true, c.loop-firing.invariant.firing) in
    let one = amounts_one (program c.args.self.now) c.args.actor k last c.loop-firing.at (length c.args.tokens.now) lt c.loop-firing.invariant.tokens in
    let long = ap length (from_on c.args.tokens.now c.loop-firing.at) ∙ length-drop c.loop-firing.at c.args.tokens.now in
    omega (arith, one, long)

pub push_phase-requires-clause-room : goal.push_phase-requires-clause-room
push_phase-requires-clause-room c =
    let last : ℕ = c.fired-first.result + c.args.n in
    let k : ℕ = c.loop-firing.turn.firing in
    let lt : k < last = omega (arith, c.loop-firing-test.true, c.loop-firing.invariant.firing) in
    gifts_one (program c.args.self.now).plan.channels c.args.actor k last (length c.loop-firing.outputs.items) c.loop-firing.outputs.capacity lt
    c.loop-firing.invariant.room

pub overflow_add-at : goal.overflow_add-at
overflow_add-at c =
    let last : ℕ = c.fired-first.result + c.args.n in
    let k : ℕ = c.loop-firing.turn.firing in
    let lt : k < last = omega (arith, c.loop-firing-test.true, c.loop-firing.invariant.firing) in
    let small = amounts_less (program c.args.self.now) c.args.actor k last c.loop-firing.at c.in_ok-at.field-0 (length c.args.tokens.now) lt
    c.in_ok-at.ensures.amount c.loop-firing.invariant.tokens in
    grind (arith, common_steps, small)

pub loop-firing-preserved : goal.loop-firing-preserved
loop-firing-preserved c =
    let w : Program = program c.args.self.now in
    let a : ℕ = c.args.actor in
    let k : ℕ = c.loop-firing.turn.firing in
    let last : ℕ = c.fired-first.result + c.args.n in
    let lt : k < last = omega (arith, c.loop-firing-test.true, c.loop-firing.invariant.firing) in
    let at : ℕ = c.loop-firing.at + c.in_ok-at.field-0 in
    let new : List ℤ = c.push_phase.new.outputs.items in
    let rest : List ℤ = drop c.loop-firing.at c.args.tokens.now in
    let items : new ≡ c.loop-firing.outputs.items ++ phase_value w a k rest = c.in_ok-at.ensures.items
    ∙ ap (λ (xs : List ℤ). c.loop-firing.outputs.items ++ phase_value w a k xs) (from_on c.args.tokens.now c.loop-firing.at) in
    let longer : length new ≡ length c.loop-firing.outputs.items + gift a k w.plan.channels =
    ap length items ∙ length-append c.loop-firing.outputs.items (phase_value w a k rest)
    ∙ ap (λ (j : ℕ). length c.loop-firing.outputs.items + j) (length_phase w a k rest) in
    let left = gifts_less w.plan.channels a k last (length c.loop-firing.outputs.items) (length new) c.loop-firing.outputs.capacity lt longer
    c.loop-firing.invariant.room in
    let next : c.turn_after-turn.result.firing ≡ k + 1 = c.turn_after-turn.ensures.firing in
    let room = subst (λ (j : ℕ). length new + gifts_of w.plan.channels a j (last - j) ≤ c.loop-firing.outputs.capacity) (sym next) left in
    record {
      firing = omega (arith, next, c.loop-firing.invariant.firing);
      in_phase = c.turn_after-turn.ensures.in_phase;
      low = c.turn_after-turn.ensures.low;
      values = ap (λ (j : ℕ). new ++ phase_values w a j (last - j) (drop at c.args.tokens.now)) next
          ∙ phases_more w a k last c.loop-firing.at c.in_ok-at.field-0 c.args.tokens.now c.loop-firing.outputs.items new _
          lt c.in_ok-at.ensures.amount items c.loop-firing.invariant.values;
      tokens = subst (λ (j : ℕ). at + amounts_of w a j (last - j) ≤ length c.args.tokens.now) (sym next)
          (amounts_less w a k last c.loop-firing.at c.in_ok-at.field-0 (length c.args.tokens.now) lt c.in_ok-at.ensures.amount
          c.loop-firing.invariant.tokens);
      room = omega (arith, room, c.in_ok-at.ensures.capacity);
    }

pub loop-firing-init : goal.loop-firing-init
loop-firing-init c =
    let firing = c.turn-turn.ensures.firing in
    let left : c.fired-first.result + c.args.n - c.turn-turn.result.firing ≡ c.args.n = omega (arith, firing, c.fired-first.ensures.value) in
    record {
      firing = firing ∙ sym c.fired-first.ensures.value;
      in_phase = c.turn-turn.ensures.in_phase;
      low = c.turn-turn.ensures.low;
      values = rw (left, firing) refl;
      tokens = rw (left, firing) (omega (arith, c.requires.tokens));
      room = rw (left, firing) c.requires.room;
    }

pub push_phase-requires-clause-in_phase : goal.push_phase-requires-clause-in_phase
push_phase-requires-clause-in_phase c = c.loop-firing.invariant.in_phase

pub turn_after-turn-requires-clause-few : goal.turn_after-turn-requires-clause-few
turn_after-turn-requires-clause-few c =
    omega (arith, c.loop-firing.invariant.firing, c.loop-firing-test.true, c.requires.few, c.fired-first.ensures.value)

pub returns : goal.returns
returns c =
    let done : c.fired-first.result + c.args.n - c.loop-firing.turn.firing ≡ 0 = omega (arith, c.loop-firing.invariant.firing, c.loop-firing-test.false) in
    sym (append-nil c.loop-firing.outputs.items) ∙ (rw done at c.loop-firing.invariant.values)
