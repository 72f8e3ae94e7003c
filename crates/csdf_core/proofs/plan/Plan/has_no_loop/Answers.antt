use Rattle.std.proofs.Common.{◌≡◌, true, false}
use Rattle.csdf_core.proofs.PlanLemmas.{loops}
use Rattle.csdf_core.proofs.plan.Plan.has_no_loop.Goals as goal

pub returns-in-Some : goal.returns-in-Some
returns-in-Some c =
    let is = rw c.in-Some.is at c.first_loop.ensures.some in
    (λ no. (let e : false ≡ true = no in cc), λ none. absurd (loops c.args.self.now.channels c.args.actor c.in-Some.field-0 is.0 is.1 is.2 none))
