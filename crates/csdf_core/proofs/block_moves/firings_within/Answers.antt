use Rattle.std.proofs.Common.{ℕ, ◌≡◌, ◌*◌, ap, subst, ◌∙◌, arith}
use Rattle.csdf_core.specs.Phases.{HasPhases}
use Rattle.csdf_core.proofs.OnePhase.{gifts_times, gives_times}
use Rattle.csdf_core.proofs.block_moves.firings_within.Goals as goal

pub returns-clause-within : goal.returns-clause-within
returns-clause-within c =
    let has = subst (λ (x : ℕ). HasPhases c.args.plan.now.channels c.args.actor x)
    (let one : c.phases.result ≡ 1 = omega (arith, c.if-phases-ne1.false) in one) c.phases.ensures.phases in
    let times = gives_times c.args.plan.now.channels c.args.actor has c.args.channel c.requires.channel c.requires.own c.args.turn.firing c.times_over.result in
    let each = ap (λ (x : ℕ). c.times_over.result * x) (c.from.ensures ∙ c.gives.ensures.value) in
    omega (arith, times, each, c.times_over.ensures.fits)

pub returns-clause-written : goal.returns-clause-written
returns-clause-written c =
    let has = subst (λ (x : ℕ). HasPhases c.args.plan.now.channels c.args.actor x)
    (let one : c.phases.result ≡ 1 = omega (arith, c.if-phases-ne1.false) in one) c.phases.ensures.phases in
    gifts_times c.args.plan.now.channels c.args.actor has c.args.turn.firing c.times_over.result
