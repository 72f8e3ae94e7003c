use Rattle.std.proofs.Common.{◌≡◌, ◌≤◌, ℕ, zero, suc, List, [], ◌∷◌, length, replicate, subst, sym, refl, arith}
use Rattle.std.specs.Prelude.{ℤ, pos, IsTrue, ◌↔◌}
use Rattle.std.proofs.lemmas.List.{length-replicate}
use Rattle.csdf_core.specs.Blocks.{gifts_of, takes_at, HoldAll}
use Rattle.csdf_core.specs.Engine.{CanFire}
use Rattle.csdf_core.specs.Inside.{now_in}
use Rattle.csdf_core.specs.Plan.{Plan, Channel}
use Rattle.csdf_core.specs.Ports.{inputs_at, tokens_at, tokens_in}
use Rattle.csdf_core.specs.Step.{count}
use Rattle.csdf_core.proofs.BlockMachines.{Machine, machine}
use Rattle.csdf_core.proofs.Known.{IsKnown, known, hold_apart, hold_first}
use Rattle.csdf_core.proofs.firing_core.Core.holds.Goals as goal
use Rattle.csdf_core.proofs.firing_core.Core.holds.Goals.{After-limit-limit, After-turn}

module _ (c : After-limit-limit) where
  abbrev pub plan : Plan
  plan = c.self.inside.plan

  abbrev pub k : ℕ
  k = count (now_in c.self.inside) c.args.actor

  abbrev pub some : List ℤ
  some = replicate (gifts_of plan.channels c.args.actor k c.args.n) (pos 0)

  can : CanFire plan (now_in c.self.inside) c.args.actor c.args.n
  can = rw (← c.self.view_is) at c.requires.can

  pub told : IsKnown plan c.args.actor k c.args.n some (machine c.self.inside)
  told =
      let len : length some ≡ gifts_of plan.channels c.args.actor k c.args.n = length-replicate _ _ in
      known plan c.args.actor (c.gives_few.ensures c.args.actor) c.args.n some (machine c.self.inside) (record { sound = c.self.invariant.sound; chains = refl })
      (can some len) len

module _ (c : After-turn) where
  pub firing : c.turn.result.firing ≡ count (now_in c.self.inside) c.args.actor
  firing = rw (← c.self.view_is) at c.turn.ensures.firing

pub hold_each-requires-clause-few : goal.hold_each-requires-clause-few
hold_each-requires-clause-few c =
    let at : After-limit-limit = (goal.at.hold_each-requires-clause-few c).After-limit-limit in
    let now : After-turn = (goal.at.hold_each-requires-clause-few c).After-turn in
    let t = (told at).limit in
    omega (arith, t, firing now, c.limit-limit.ensures.value, c.limit-limit.ensures.small)

pub returns-clause-holds : goal.returns-clause-holds
returns-clause-holds c =
    let now : After-turn = (goal.at.returns-clause-holds c).After-turn in
    rw (← c.self.view_is)
    (subst (λ (x : ℕ). IsTrue c.hold_each.result ↔ HoldAll (tokens_in c.self.inside.pool) (takes_at c.self.inside.plan.channels x c.args.n)
    (inputs_at c.self.inside.plan.channels c.args.actor)) (firing now) c.hold_each.ensures)

pub returns-clause-apart : goal.returns-clause-apart
returns-clause-apart c =
    let at : After-limit-limit = (goal.at.returns-clause-apart c).After-limit-limit in
    let now : After-turn = (goal.at.returns-clause-apart c).After-turn in
    rw (← c.self.view_is)
    (λ apart. c.hold_each.ensures.1
    (subst (λ (x : ℕ). HoldAll (tokens_in c.self.inside.pool) (takes_at c.self.inside.plan.channels x c.args.n)
    (inputs_at c.self.inside.plan.channels c.args.actor)) (sym (firing now))
    (hold_apart c.self.inside.plan c.args.actor (c.gives_few.ensures c.args.actor) c.args.n (some at) (machine c.self.inside) (told at) apart)))

none_held : (channels : List Channel) (k : ℕ) (ts : List (List ℤ)) (ins : List ℕ) → HoldAll ts (takes_at channels k 0) ins
none_held channels k ts [] = tt
none_held channels k ts (c ∷ ins) = (let z : 0 ≤ length (tokens_at ts c) = omega arith in z, none_held channels k ts ins)

few_held : (plan : Plan) (a k n : ℕ) (v : List ℤ) (m : Machine) → IsKnown plan a k n v m → n ≤ 1
    → HoldAll m.now.tokens (takes_at plan.channels k n) (inputs_at plan.channels a)
few_held plan a k zero v m b few = none_held plan.channels k m.now.tokens (inputs_at plan.channels a)
few_held plan a k (suc zero) v m b few = hold_first plan a k 1 v m b (omega arith)
few_held plan a k (suc (suc n)) v m b few = absurd (omega (arith, few))

pub returns-clause-one : goal.returns-clause-one
returns-clause-one c = λ few. absurd (omega (arith, few, c.if-n-le1.false))

pub returns-then-n-le1-clause-holds : goal.returns-then-n-le1-clause-holds
returns-then-n-le1-clause-holds c =
    let at : After-limit-limit = (goal.at.returns-then-n-le1-clause-holds c).After-limit-limit in
    rw (← c.self.view_is)
    (λ _. few_held c.self.inside.plan c.args.actor (k at) c.args.n (some at) (machine c.self.inside) (told at) c.if-n-le1.true, λ _. refl)
