-- Why a settled run has no outcome.
use Rattle.std.proofs.Common.{ℕ, Result, Ok, Err}
use Rattle.std.specs.Prelude.{IfErr}
use Rattle.csdf_floor.specs.declared.fault.RunFault.{RunFault}
use Rattle.csdf_floor.specs.declared.fault.RunFault.TheVariants.{Memory, Mixed, Worker}
use Rattle.csdf_floor.specs.Outcome.{IsSettleAnswer}
use Rattle.csdf_crew.specs.Causes.{IsCauseAmong}

-- what a settled run answers is no thread's fault
pub settled_cause : {T : Type 0} → (end : Type 0) (result : Result T RunFault) (n : ℕ) → IsSettleAnswer end result → IfErr result (IsCauseAmong n)
settled_cause end (Ok o) n h = tt
settled_cause end (Err Mixed) n h = tt
settled_cause end (Err Memory) n h = tt
settled_cause end (Err Worker) n h = absurd h
