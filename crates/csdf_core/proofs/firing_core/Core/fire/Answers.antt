use Rattle.std.proofs.Common.{◌≡◌, ◌+◌, ◌<◌, ℕ, suc, length, refl, ap, subst, sym, arith}
use Rattle.csdf_core.specs.Blocks.{gifts_of, firings_of, answers_to}
use Rattle.csdf_core.specs.Engine.{CanFire}
use Rattle.csdf_core.specs.Inside.{now_in}
use Rattle.csdf_core.specs.Plan.{Plan}
use Rattle.csdf_core.specs.Rows.{gift}
use Rattle.csdf_core.specs.Shows.{Plays}
use Rattle.csdf_core.specs.State.{Present}
use Rattle.csdf_core.specs.Step.{count}
use Rattle.csdf_core.proofs.BlockMachines.{machine}
use Rattle.csdf_core.proofs.Fired.{first_begins, plays_one, fires_after}
use Rattle.csdf_core.proofs.Known.{known}
use Rattle.csdf_core.proofs.Kept.{begins}
use Rattle.csdf_core.proofs.firing_core.Core.fire.Goals as goal
use Rattle.csdf_core.proofs.firing_core.Core.fire.Goals.{After-fire_next}

pub fire_at_once-requires-clause-actor : goal.fire_at_once-requires-clause-actor
fire_at_once-requires-clause-actor c =
    let can = rw (← c.self.view_is) at (c.requires.can c.args.tokens.now c.requires.all) in
    rw (← c.self.view_is)
    (begins c.self.inside.plan (now_in c.self.inside) c.args.actor
    (first_begins c.self.inside.plan (now_in c.self.inside) c.args.actor (count (now_in c.self.inside) c.args.actor) c.args.n c.args.tokens.now c.if-n-gt0.true
    can)).there

pub fire_at_once-requires-clause-few : goal.fire_at_once-requires-clause-few
fire_at_once-requires-clause-few c =
    let plan : Plan = c.self.inside.plan in
    let p : Present = now_in c.self.inside in
    let a : ℕ = c.args.actor in
    let can = rw (← c.self.view_is) at (c.requires.can c.args.tokens.now c.requires.all) in
    let all : length c.args.tokens.now ≡ gifts_of plan.channels a (count p a) c.args.n = rw (← c.self.view_is) at c.requires.all in
    let within = (known plan a (c.gives_few.ensures a) c.args.n c.args.tokens.now (machine c.self.inside)
    (record { sound = c.self.invariant.sound; chains = refl }) can all).limit in
    rw (← c.self.view_is) (omega (arith, within, c.limit-limit.ensures.small, c.limit-limit.ensures.value))

pub returns-clause-accepted : goal.returns-clause-accepted
returns-clause-accepted c = c.requires.can c.args.tokens.now c.requires.all

pub returns-then-gives_back-clause-accepted : goal.returns-then-gives_back-clause-accepted
returns-then-gives_back-clause-accepted c = c.requires.can c.args.tokens.now c.requires.all

pub returns-clause-rest : goal.returns-clause-rest
returns-clause-rest c = λ one. absurd (omega (arith, one, c.if-n-eq1.false))

pub returns-then-gives_back-clause-rest : goal.returns-then-gives_back-clause-rest
returns-then-gives_back-clause-rest c = λ one. absurd (omega (arith, one, c.if-n-eq1.false))

-- one firing
pub fire_next-requires-clause-begins : goal.fire_next-requires-clause-begins
fire_next-requires-clause-begins c =
    first_begins c.args.self.now.plan c.args.self.now.now c.args.actor (count c.args.self.now.now c.args.actor) c.args.n c.args.tokens.now
    (let some : 0 < c.args.n = omega (arith, c.if-n-eq1.true) in some) (c.requires.can c.args.tokens.now c.requires.all)

pub fire_next-requires-clause-all : goal.fire_next-requires-clause-all
fire_next-requires-clause-all c =
    let one = ap (gifts_of c.args.self.now.plan.channels c.args.actor (count c.args.self.now.now c.args.actor)) c.if-n-eq1.true in
    omega (arith, one, c.requires.all)

module _ (c : After-fire_next) where
  pub all : length c.args.tokens.now ≡ gift c.args.actor (count c.args.self.now.now c.args.actor) c.args.self.now.plan.channels
  all =
      let one = ap (gifts_of c.args.self.now.plan.channels c.args.actor (count c.args.self.now.now c.args.actor)) c.if-n-eq1.true in
      omega (arith, one, c.requires.all)

pub returns-then-n-eq1-clause-accepted : goal.returns-then-n-eq1-clause-accepted
returns-then-n-eq1-clause-accepted c = c.requires.can c.args.tokens.now c.requires.all

pub returns-then-n-eq1-clause-plays : goal.returns-then-n-eq1-clause-plays
returns-then-n-eq1-clause-plays c =
    let at : After-fire_next = (goal.at.returns-then-n-eq1-clause-plays c).After-fire_next in
    let plan : Plan = c.args.self.now.plan in
    let p : Present = c.args.self.now.now in
    let a : ℕ = c.args.actor in
    subst (λ (x : ℕ). Plays c.args.self.now c.fire_next.new.self (firings_of plan.channels a (count p a) x c.args.tokens.now)
    (answers_to plan p (firings_of plan.channels a (count p a) x c.args.tokens.now))) (sym c.if-n-eq1.true)
    (plays_one a c.args.self.now c.fire_next.new.self c.args.tokens.now (all at) c.fire_next.ensures)

pub returns-then-n-eq1-clause-rest : goal.returns-then-n-eq1-clause-rest
returns-then-n-eq1-clause-rest c =
    let at : After-fire_next = (goal.at.returns-then-n-eq1-clause-rest c).After-fire_next in
    λ one m can. fires_after c.args.actor m c.args.self.now c.fire_next.new.self c.args.tokens.now (all at) c.fire_next.ensures
    (subst (λ (x : ℕ). CanFire c.args.self.now.plan c.args.self.now.now c.args.actor x) (let e : m + 1 ≡ suc m = omega arith in e) can)

pub limit-limit-requires : goal.limit-limit-requires
limit-limit-requires c =
    let can = rw (← c.self.view_is) at (c.requires.can c.args.tokens.now c.requires.all) in
    (begins c.self.inside.plan (now_in c.self.inside) c.args.actor
    (first_begins c.self.inside.plan (now_in c.self.inside) c.args.actor (count (now_in c.self.inside) c.args.actor) c.args.n c.args.tokens.now c.if-n-gt0.true
    can)).there

pub fire_at_once-requires-clause-back : goal.fire_at_once-requires-clause-back
fire_at_once-requires-clause-back c = rw (← c.self.view_is) (c.gives_back.ensures c.if-gives_back.true)
