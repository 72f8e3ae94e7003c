use Rattle.std.proofs.Common.{◌≡◌, subst, ◌∙◌}
use Rattle.std.specs.Prelude.{Bool, IfOk}
use Rattle.csdf_floor.specs.Outcome.{IsOutcome}
use Rattle.csdf_floor.specs.Work.{Work}
use Rattle.csdf_run.proofs.KnownMost.{known_most}
use Rattle.csdf_run.proofs.RunFaults.{told_ok}
use Rattle.csdf_run.proofs.alone.outcome_alone.Goals as goal

pub returns-in-Ok-run_alone-clause-outcome : goal.returns-in-Ok-run_alone-clause-outcome
returns-in-Ok-run_alone-clause-outcome g c =
    told_ok (IsOutcome c.args.request.work) c.into_settled.result.outcome c.told_of.result.outcome _ c.told_of.ensures.told c.told_of.ensures.memory
    (subst (λ (w : Work). IfOk c.into_settled.result.outcome (IsOutcome w)) (c.run_alone.ensures.work ∙ c.in-Ok-into_floor.ensures.work) c.into_settled.ensures.outcome)

pub returns-in-Ok-run_alone-clause-most : goal.returns-in-Ok-run_alone-clause-most
returns-in-Ok-run_alone-clause-most g c =
    known_most (g.G.Told.knows_most c.args.gate.now) c.args.request.work c.in-Ok.most c.told_of.result.outcome c.most_firings.ensures.accepted
    c.in-Ok.ensures.most c.tell_most.ensures
    (told_ok (IsOutcome c.args.request.work) c.into_settled.result.outcome c.told_of.result.outcome _ c.told_of.ensures.told c.told_of.ensures.memory
    (subst (λ (w : Work). IfOk c.into_settled.result.outcome (IsOutcome w)) (c.run_alone.ensures.work ∙ c.in-Ok-into_floor.ensures.work)
    c.into_settled.ensures.outcome))

pub returns-in-Ok-run_alone-clause-keeps : goal.returns-in-Ok-run_alone-clause-keeps
returns-in-Ok-run_alone-clause-keeps g c =
    told_ok (λ o. o.journal.keeps ≡ c.args.request.keeps) c.into_settled.result.outcome c.told_of.result.outcome _ c.told_of.ensures.told c.told_of.ensures.memory
    (subst (λ (b : Bool). IfOk c.into_settled.result.outcome (λ o. o.journal.keeps ≡ b)) (c.run_alone.ensures.keeps ∙ c.in-Ok-into_floor.ensures.keeps)
    c.into_settled.ensures.keeps)
