use Rattle.std.proofs.Common.{◌≡◌, subst}
use Rattle.std.specs.Prelude.{Bool, IfOk}
use Rattle.csdf_floor.specs.Outcome.{IsOutcome}
use Rattle.csdf_floor.specs.Work.{Work}
use Rattle.csdf_run.proofs.KnownMost.{known_most}
use Rattle.csdf_run.proofs.running.outcome_told.Goals as goal

pub returns-clause-keeps : goal.returns-clause-keeps
returns-clause-keeps g c =
    subst (λ (b : Bool). IfOk c.run_crew.result.outcome (λ o. o.journal.keeps ≡ b)) c.in-Ok-into_floor.ensures.keeps c.run_crew.ensures.keeps

pub returns-clause-most : goal.returns-clause-most
returns-clause-most g c =
    known_most (g.G.Told.knows_most c.args.gate.now) c.args.request.work c.in-Ok.most c.run_crew.result.outcome c.most_firings.ensures.accepted
    c.in-Ok.ensures.most c.tell_most.ensures
    (subst (λ (w : Work). IfOk c.run_crew.result.outcome (IsOutcome w)) c.in-Ok-into_floor.ensures.work c.run_crew.ensures.outcome)
