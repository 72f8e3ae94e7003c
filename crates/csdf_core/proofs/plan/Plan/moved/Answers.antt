use Rattle.std.proofs.Common.{◌≡◌, ℕ, ◌%◌, List, length, subst, ap, sym, ◌∙◌, arith}
use Rattle.std.proofs.Math.Nat.{mod-one}
use Rattle.csdf_core.specs.Phases.{HasPhases, IsInPhase, IsPhase}
use Rattle.csdf_core.specs.Plan.{Channel}
use Rattle.csdf_core.proofs.plan.Plan.moved.Goals as goal

one_rate : (rates : List ℕ) (k : ℕ) → length rates ≡ 1 → IsPhase rates k 0
one_rate rates k e = record { within = omega arith; is = sym (ap (λ l. k % l) e ∙ mod-one k) }

-- in one phase each firing is in the first
in_first : (cs : List Channel) (a k : ℕ) → HasPhases cs a 1 → IsInPhase cs a k 0
in_first cs a k h = record { takes = λ c lt e. one_rate _ k (h.takes c lt e); gives = λ c lt e. one_rate _ k (h.gives c lt e) }

pub returns-then-phases-eq1-clause-value : goal.returns-then-phases-eq1-clause-value
returns-then-phases-eq1-clause-value c =
    c.side-ends.ensures.first ∙ c.side-ends.ensures.moved c.args.turn.firing 0 (in_first c.args.self.now.channels c.args.actor c.args.turn.firing
    (subst (λ n. HasPhases c.args.self.now.channels c.args.actor n) c.if-phases-eq1.true c.phases.ensures.phases))
