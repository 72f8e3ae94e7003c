use Rattle.std.proofs.Common.{◌∙◌, ap, inl, inr, sym, arith}
use Rattle.std.proofs.lemmas.Bool.Decides.{eqb_tells}
use Rattle.std.proofs.lemmas.Grind.{common_steps}
use Rattle.csdf_core.specs.Moves.{Begin}
use Rattle.csdf_core.specs.Step.{refusal}
use Rattle.csdf_floor.proofs.ending.is_some_refused.Goals as goal

pub loop-actor-preserved : goal.loop-actor-preserved
loop-actor-preserved c = λ a lt e. elim (eqb_tells a c.loop-actor.actor) [
  | inl same ↦ (let no = c.if-is_refused.ensures.1 (sym (ap (λ b. refusal c.args.core.now.plan c.args.core.now.now (Begin b)) same.1) ∙ e) in absurd (cc))
  | inr other ↦ c.loop-actor.invariant a (let ne = other.1 in omega (arith, lt, ne)) e
]

pub returns-then-is_refused : goal.returns-then-is_refused
returns-then-is_refused c = grind (arith, common_steps)

pub returns : goal.returns
returns c = grind (arith, common_steps)
