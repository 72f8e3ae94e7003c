use Rattle.std.proofs.Common.{ℕ, inl, inr, refl, subst, sym, arith, rules}
use Rattle.std.proofs.lemmas.Bool.Decides.{eqb_tells}
use Rattle.csdf_core.specs.Step.{Rests, IsQuiet}
use Rattle.csdf_core.proofs.Beginnings.{shows_some}
use Rattle.csdf_core.proofs.firing_core.Core.is_quiet.Goals as goal

pub returns-then-not-is_resting-clause-shown : goal.returns-then-not-is_resting-clause-shown
returns-then-not-is_resting-clause-shown c = rw (← c.self.view_is) (shows_some _ _ _ _ refl c.self.invariant.sound.cells)

pub loop-actor-preserved : goal.loop-actor-preserved
loop-actor-preserved c = λ a lt. elim (eqb_tells a c.loop-actor.actor) [
  | inl e ↦ subst (λ (b : ℕ). Rests c.args.self.now.plan c.args.self.now.now b) (sym e.1) (c.if-not-is_resting.ensures.0 refl)
  | inr e ↦ c.loop-actor.invariant a (let ne = e.1 in omega arith)
]

pub returns-clause-shown : goal.returns-clause-shown
returns-clause-shown c = rw (← c.self.view_is) (shows_some _ _ _ _ refl c.self.invariant.sound.cells)

pub returns-clause-quiet : goal.returns-clause-quiet
unfolding IsQuiet
returns-clause-quiet c = search rules
