use Rattle.std.proofs.Common.{◌*◌, ℕ, ap, ap₂, subst, sym, ◌∙◌, arith}
use Rattle.csdf_core.specs.Blocks.{needs_of}
use Rattle.csdf_core.specs.Inside.{now_in}
use Rattle.csdf_core.specs.Phases.{HasPhases}
use Rattle.csdf_core.specs.Step.{count}
use Rattle.csdf_core.proofs.OnePhase.{needs_times}
use Rattle.csdf_core.proofs.firing_core.Core.needed_ahead.Goals as goal

pub returns-then-phases-eq1 : goal.returns-then-phases-eq1
returns-then-phases-eq1 c =
    let has = subst (HasPhases c.self.inside.plan.channels c.args.actor) c.if-phases-eq1.true c.phases.ensures.phases in
    let need = rw (← c.self.view_is) at c.need-each.ensures.value in
    rw (← c.self.view_is) (ap₂ (λ (x y : ℕ). x * y) c.from.ensures need
    ∙ sym (needs_times c.self.inside.plan.channels c.args.actor has (count (now_in c.self.inside) c.args.actor) c.args.n))

pub returns-then-n-eq1 : goal.returns-then-n-eq1
returns-then-n-eq1 c =
    let one = ap (needs_of c.args.self.now.plan.channels c.args.actor (count c.args.self.now.now c.args.actor)) c.if-n-eq1.true in
    omega (arith, c.need-each.ensures.value, one)
