use Rattle.std.proofs.Common.{◌≡◌, ◌*◌, ℕ, ap, ap₂, subst, sym, ◌∙◌, arith}
use Rattle.csdf_core.specs.Blocks.{gifts_of}
use Rattle.csdf_core.specs.Inside.{now_in}
use Rattle.csdf_core.specs.Phases.{HasPhases}
use Rattle.csdf_core.specs.Step.{count}
use Rattle.csdf_core.proofs.OnePhase.{gifts_times}
use Rattle.csdf_core.proofs.RateTotals.{few_gifts_of}
use Rattle.csdf_core.proofs.firing_core.Core.given_ahead.Goals as goal

pub returns-then-phases-eq1-clause-value : goal.returns-then-phases-eq1-clause-value
returns-then-phases-eq1-clause-value c =
    let has = subst (HasPhases c.self.inside.plan.channels c.args.actor) c.if-phases-eq1.true c.phases.ensures.phases in
    let gives = rw (← c.self.view_is) at c.gives-each.ensures.sum in
    rw (← c.self.view_is) (ap₂ (λ (x y : ℕ). x * y) c.from.ensures gives
    ∙ sym (gifts_times c.self.inside.plan.channels c.args.actor has (count (now_in c.self.inside) c.args.actor) c.args.n))

pub returns-then-n-eq1-clause-value : goal.returns-then-n-eq1-clause-value
returns-then-n-eq1-clause-value c =
    let one = ap (gifts_of c.args.self.now.plan.channels c.args.actor (count c.args.self.now.now c.args.actor)) c.if-n-eq1.true in
    omega (arith, c.gives-each.ensures.sum, one)

pub returns-clause-small : goal.returns-clause-small
returns-clause-small c =
    let value : c.moved_in_all.result ≡ gifts_of c.self.inside.plan.channels c.args.actor c.fired.result c.args.n = c.moved_in_all.ensures in
    omega (arith, value, few_gifts_of c.self.inside.plan.channels c.args.actor (c.gives_few.ensures c.args.actor) c.fired.result c.args.n)
