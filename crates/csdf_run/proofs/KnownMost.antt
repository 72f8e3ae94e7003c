-- How many firings a run makes at most, as it is told.
use Rattle.std.proofs.Common.{ℕ, ◌≤◌, Result, Ok, Err, arith}
use Rattle.std.specs.Prelude.{IfOk}
use Rattle.csdf_analysis.specs.Acceptance.{IsAccepted}
use Rattle.csdf_core.specs.State.{present}
use Rattle.csdf_core.specs.Step.{begun_count}
use Rattle.csdf_floor.specs.declared.outcome.Outcome.{Outcome}
use Rattle.csdf_floor.specs.Journal.{state_of}
use Rattle.csdf_floor.specs.Most.{IsMostFirings}
use Rattle.csdf_floor.specs.Outcome.{IsOutcome, journal_in}
use Rattle.csdf_floor.specs.Work.{Work, program}
use Rattle.csdf_floor.proofs.Mosts.{begins_at_most}
use Rattle.csdf_run.specs.Requests.{KnowsMost}

-- an outcome has made no more
knows_most : (knows : ℕ → Type 0) (w : Work) (most : ℕ) (o : Outcome) → IsAccepted w.accepted → IsMostFirings w most → knows most → IsOutcome w o
    → KnowsMost knows w o
knows_most knows w most o ok is known outcome =
    let begun : begun_count (present (state_of (program w) (journal_in o))) ≤ most = begins_at_most w (journal_in o) most ok outcome.honest is in
    record { most = most; is = is; known = known; kept = omega arith }

pub known_most : {E : Type 0} → (knows : ℕ → Type 0) (w : Work) (most : ℕ) (result : Result Outcome E) → IsAccepted w.accepted → IsMostFirings w most
    → knows most → IfOk result (IsOutcome w) → IfOk result (KnowsMost knows w)
known_most knows w most (Ok o) ok is known outcome = knows_most knows w most o ok is known outcome
known_most knows w most (Err e) ok is known outcome = tt
