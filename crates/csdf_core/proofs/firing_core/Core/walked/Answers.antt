use Rattle.std.proofs.Common.{◌≡◌, ◌+◌, ◌<◌, ◌≤◌, ℕ, zero, suc, refl, arith, below_more, true}
use Rattle.std.specs.Prelude.{slice_index}
use Rattle.csdf_core.specs.Engine.{CanFire, FindsNext}
use Rattle.csdf_core.specs.Inside.{now_in}
use Rattle.csdf_core.specs.Phases.{HasPhases}
use Rattle.csdf_core.specs.Plan.{Plan}
use Rattle.csdf_core.specs.State.{Present}
use Rattle.csdf_core.specs.Step.{count, begun_count, given, is_source}
use Rattle.csdf_core.proofs.BlockBegins.{given_more}
use Rattle.csdf_core.proofs.BlockMachines.{machine}
use Rattle.csdf_core.proofs.Cycles.{next_finds, begun_fewer}
use Rattle.csdf_core.proofs.Finds.{some_fire}
use Rattle.csdf_core.proofs.firing_core.Core.walked.Goals as goal
use Rattle.csdf_core.proofs.firing_core.Core.walked.Goals.{After-within_limits-limited}

-- the last of them finds its tokens in the file
supplied : (plan : Plan) (p : Present) (a n : ℕ) → ((i : ℕ) → i < n → FindsNext plan p a i) → 0 < n → is_source plan a ≡ true
    → given plan a (count p a + n) ≤ slice_index plan.supplies a
supplied plan p a zero f some source = absurd (omega arith)
supplied plan p a (suc i) f some source =
    let s = (f i (omega arith)).supply source in
    omega (arith, s, given_more plan a (count p a) (suc i))

module _ (c : After-within_limits-limited) where
  abbrev plan : Plan
  plan = c.self.inside.plan

  abbrev p : Present
  p = now_in c.self.inside

  abbrev a : ℕ
  a = c.args.actor

  pub can : (n : ℕ) → n ≤ c.within_limits-limited.result → ((i : ℕ) → i < n → FindsNext c.args.self.now.plan c.args.self.now.now c.args.actor i)
      → CanFire c.args.self.now.plan c.args.self.now.now c.args.actor n
  can n le each =
      let has : HasPhases plan.channels a c.args.phases = rw (← c.self.view_is) at c.requires.phases in
      let found : (i : ℕ) → i < n → FindsNext plan p a i = rw (← c.self.view_is) at each in
      let limit = rw (← c.self.view_is) at c.within_limits-limited.ensures.limit in
      let firings = rw (← c.self.view_is) at c.within_limits-limited.ensures.firings in
      rw (← c.self.view_is)
      (some_fire plan a (c.gives_few.ensures a) (machine c.self.inside) (record { sound = c.self.invariant.sound; chains = refl }) n
      (λ some. record {
        there = rw (← c.self.view_is) at c.requires.actor;
        number = refl;
        idle = rw (← c.self.view_is) at (c.if-not-is_ready.ensures.idle refl);
        limit = omega (arith, limit, le);
        opens = rw (← c.self.view_is) at (c.if-not-is_ready.ensures.opens refl);
        supply = supplied plan p a n found some;
        firings = begun_fewer plan.firings (begun_count p) n c.within_limits-limited.result le (firings (omega (arith, some, le)));
        each = λ i lt. next_finds plan p a c.args.phases i c.self.invariant.sound.fit has (found i lt);
      }))

pub returns-else-finds-clause-can : goal.returns-else-finds-clause-can
returns-else-finds-clause-can c =
    can (goal.at.returns-else-finds-clause-can c).After-within_limits-limited c.loop-n.n c.loop-n.invariant.0 c.loop-n.invariant.1

pub returns-after-loop-n-clause-can : goal.returns-after-loop-n-clause-can
returns-after-loop-n-clause-can c =
    can (goal.at.returns-after-loop-n-clause-can c).After-within_limits-limited c.loop-n.n c.loop-n.invariant.0 c.loop-n.invariant.1

pub loop-n-preserved : goal.loop-n-preserved
loop-n-preserved c = (
  omega (arith, c.loop-n-test.true),
  below_more (λ i. FindsNext c.args.self.now.plan c.args.self.now.now c.args.actor i) c.loop-n.n c.loop-n.invariant.1 (c.if-finds.ensures refl),
)
