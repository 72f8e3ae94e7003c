-- Why a run has no outcome.
use Rattle.std.specs.Prelude.{◌≤◌, ℕ}
pub use Rattle.csdf_crew.specs.Causes.{IsCauseAmong}
use Rattle.csdf_run.specs.declared.no_outcome.NoOutcome.{NoOutcome}
use Rattle.csdf_run.specs.declared.no_outcome.NoOutcome.TheVariants as none

-- why a run by so many workers that a watch is told of can have no outcome: one alone starts no thread
abbrev pub IsWantAmong : ℕ → NoOutcome → Type 0
IsWantAmong workers none.Memory = Unit {0}
IsWantAmong workers none.Worker = 2 ≤ workers
