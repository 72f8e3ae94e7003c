-- Periods of a program, computed firing after firing.
use Rattle.std.specs.Prelude.{ℕ, ◌≤◌, ◌*◌, List, ℤ, Option, IfSome, sum}
use Rattle.csdf_analysis.specs.Acceptance.{Accepted, IsAccepted}
use Rattle.csdf_core.specs.Moves.{Move}
use Rattle.csdf_core.specs.Plan.{HasAmpleCells}
use Rattle.csdf_core.specs.Ever.{repeated, Runs, IsPeriod}
use Rattle.csdf_floor.specs.Journal.{program_for, IsHonest}
use Rattle.csdf_floor.specs.Sequential.{sequential_moves}
use Rattle.csdf_floor.specs.Laws.{AreAmple}

-- a journal of so many periods of an accepted graph: honest, and played whole
pub record IsPeriodJournal (a : Accepted) (feeds : List (List ℤ)) (periods : ℕ) (firings : Option ℕ) (schedule : List ℕ) (journal : List Move) : Type 0 where
  pub honest : IsHonest (program_for a feeds periods firings) journal
  pub runs : Runs (program_for a feeds periods firings).plan a.q schedule periods journal

-- an accepted graph with ample cells and long enough files computes any number of periods, firing after firing by its schedule
abbrev pub RunsHonestly : Type 0
RunsHonestly =
    (a : Accepted) (feeds : List (List ℤ)) (periods : ℕ) (firings : Option ℕ) (schedule : List ℕ) → IsAccepted a → IsPeriod a schedule
    → HasAmpleCells (program_for a feeds periods firings).plan → AreAmple a feeds periods → IfSome firings (λ most. periods * sum a.q ≤ most)
    → IsPeriodJournal a feeds periods firings schedule (sequential_moves (program_for a feeds periods firings) (repeated periods schedule))
