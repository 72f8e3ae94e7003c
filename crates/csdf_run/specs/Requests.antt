-- What a run is asked for.
use Rattle.std.specs.Prelude.{◌≡◌, ◌≤◌, ℕ, Bool, sum}
use Rattle.csdf_floor.specs.declared.fed.Fed.{Fed}
use Rattle.csdf_floor.specs.declared.outcome.Outcome.{Outcome}
use Rattle.csdf_floor.specs.Journal.{state_of}
pub use Rattle.csdf_floor.specs.Most.{IsMostFirings}
use Rattle.csdf_floor.specs.Outcome.{journal_in}
use Rattle.csdf_floor.specs.Work.{Work, feeds_in, program}

-- what contracts see of a request: the work, by how many workers, and whether the journal is kept
pub record RequestView : Type 0 where
  pub work : Work
  pub workers : ℕ
  pub keeps : Bool

-- the graph and the tokens of this work
pub record IsFedOf (w : Work) (fed : Fed) : Type 0 where
  pub accepted : fed.accepted ≡ w.accepted
  pub feeds : feeds_in fed.feeds.items ≡ w.feeds

-- how many firings an outcome has finished
abbrev pub firings_made : Work → Outcome → ℕ
firings_made w o = sum (state_of (program w) (journal_in o)).counts

-- somebody knows how many firings the work makes at most, and an outcome has made no more
pub record KnowsMost (knows : ℕ → Type 0) (w : Work) (o : Outcome) : Type 0 where
  pub most : ℕ
  pub is : IsMostFirings w most
  pub known : knows most
  pub kept : firings_made w o ≤ most
