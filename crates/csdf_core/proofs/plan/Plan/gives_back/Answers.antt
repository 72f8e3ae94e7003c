use Rattle.std.proofs.Common.{◌≡◌, subst, arith}
use Rattle.std.proofs.lemmas.Bool.Decides.{nat_tests}
use Rattle.csdf_core.specs.Phases.{HasPhases}
use Rattle.csdf_core.proofs.Shares.{apart_gives, one_gives}
use Rattle.csdf_core.proofs.plan.Plan.gives_back.Goals as goal

pub returns-then-has_no_loop : goal.returns-then-has_no_loop
returns-then-has_no_loop c =
    λ yes. apart_gives c.args.self.now.channels c.args.actor (c.has_no_loop.ensures.0 c.if-has_no_loop.true)

pub returns : goal.returns
returns c =
    λ yes.
    (let one : c.phases.result ≡ 1 = grind (arith, nat_tests, yes) in
    let has : HasPhases c.args.self.now.channels c.args.actor 1 = subst (HasPhases c.args.self.now.channels c.args.actor) one c.phases.ensures.phases in
    one_gives c.args.self.now.channels c.args.actor has
    (rw (← c.self.view_is) (λ d. c.self.invariant.channels.even c.args.actor d (rw (← c.self.view_is) at has))))
