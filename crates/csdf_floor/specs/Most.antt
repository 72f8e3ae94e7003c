-- How many firings a run makes at most: no more than the greatest counts that fit its channels and the tokens of its sources.
use Rattle.std.specs.Prelude.{ℕ, ◌≡◌, ◌≤◌, List, ℤ, Option, Some, None, if◌then◌else◌, nat_lt, length, map, slice_index, sum}
use Rattle.csdf_analysis.specs.Acceptance.{Accepted, IsAccepted}
pub use Rattle.csdf_analysis.specs.Most.{AreMost}
use Rattle.csdf_core.specs.Moves.{Move}
use Rattle.csdf_core.specs.State.{present}
use Rattle.csdf_core.specs.Step.{begun_count}
use Rattle.csdf_floor.specs.Journal.{program_for, IsHonest, state_of}
use Rattle.csdf_floor.specs.Laws.{begun}
use Rattle.csdf_floor.specs.Work.{Work, program}

-- an honest journal begins no more firings of an actor than the greatest counts that fit have
abbrev pub StaysWithinMost : Type 0
StaysWithinMost =
    (a : Accepted) (feeds : List (List ℤ)) (periods : ℕ) (firings : Option ℕ) (journal : List Move) (most : List ℕ) (actor : ℕ) → IsAccepted a
    → IsHonest (program_for a feeds periods firings) journal → AreMost a periods (map length feeds) most
    → begun (state_of (program_for a feeds periods firings) journal) actor ≤ slice_index most actor

-- so many, or as many as the limit allows where there is one
abbrev pub no_more_than : Option ℕ → ℕ → ℕ
no_more_than None n = n
no_more_than (Some most) n = if nat_lt most n then most else n

-- how many firings a work makes at most, all together: as many as the greatest counts that fit, and as the limit on all firings allows
pub record IsMostFirings (w : Work) (n : ℕ) : Type 0 where
  pub counts : List ℕ
  pub greatest : AreMost w.accepted w.periods (map length w.feeds) counts
  pub least : n ≡ no_more_than w.firings (sum counts)

-- an honest journal begins no more
abbrev pub BeginsAtMost : Type 0
BeginsAtMost =
    (w : Work) (journal : List Move) (n : ℕ) → IsAccepted w.accepted → IsHonest (program w) journal → IsMostFirings w n
    → begun_count (present (state_of (program w) journal)) ≤ n
