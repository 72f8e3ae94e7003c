use Rattle.std.proofs.Common.{◌≡◌, rules, subst}
use Rattle.std.specs.Prelude.{Bool, IfOk}
use Rattle.csdf_floor.specs.Outcome.{IsOutcome}
use Rattle.csdf_floor.specs.Work.{Work}
use Rattle.csdf_crew.proofs.SettledCauses.{settled_cause}
use Rattle.csdf_crew.proofs.threads.run_as.Goals as goal

pub returns-in-Ok-totals-clause-outcome : goal.returns-in-Ok-totals-clause-outcome
returns-in-Ok-totals-clause-outcome g c =
    subst (λ (w : Work). IfOk c.settle_and_hand_back.result.outcome (IsOutcome w)) c.into_floor-floor.ensures.work c.settle_and_hand_back.ensures.outcome

pub returns-in-Ok-totals-clause-keeps : goal.returns-in-Ok-totals-clause-keeps
returns-in-Ok-totals-clause-keeps g c =
    subst (λ (b : Bool). IfOk c.settle_and_hand_back.result.outcome (λ o. o.journal.keeps ≡ b)) c.into_floor-floor.ensures.keeps c.settle_and_hand_back.ensures.keeps

pub returns-in-Ok-totals-clause-cause : goal.returns-in-Ok-totals-clause-cause
returns-in-Ok-totals-clause-cause g c = settled_cause _ _ c.args.crew.workers c.settle_and_hand_back.ensures.answer

pub returns-in-Err-totals-clause-cause : goal.returns-in-Err-totals-clause-cause
returns-in-Err-totals-clause-cause g c = search rules
