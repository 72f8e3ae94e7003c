-- Why a run is given up: what a call answered, and the fault that it is told as.
use Rattle.std.specs.Prelude.{◌≤◌, ℕ, Option, Some, None}
use Rattle.csdf_floor.specs.declared.fault.DeliverFault.{DeliverFault}
use Rattle.csdf_floor.specs.declared.fault.DeliverFault.TheVariants as delivery
use Rattle.csdf_floor.specs.declared.fault.RunFault.{RunFault}
use Rattle.csdf_floor.specs.declared.fault.RunFault.TheVariants.{Memory, Mixed, Worker}
use Rattle.csdf_floor.specs.declared.fault.StartFault.{StartFault}
use Rattle.csdf_floor.specs.declared.fault.StartFault.TheVariants as start

-- why a worker gives up whose start was not made: memory ran out, or the floor does not stand at the claimed firing; one that the core
-- refuses is no cause
abbrev pub cause_of_no_start : StartFault → Option RunFault
cause_of_no_start start.Unknown = Some Mixed
cause_of_no_start (start.Moved firing) = Some Mixed
cause_of_no_start (start.Refused why) = None
cause_of_no_start start.Memory = Some Memory

-- why a worker gives up whose result was not taken: memory ran out, or the job is not under way
abbrev pub cause_untaken : DeliverFault → RunFault
cause_untaken delivery.Stranger = Mixed
cause_untaken delivery.Memory = Memory

-- why a run by so many workers can have no outcome
abbrev pub IsCauseAmong : ℕ → RunFault → Type 0
IsCauseAmong workers Memory = Unit {0}
IsCauseAmong workers Mixed = Unit {0}
IsCauseAmong workers Worker = 2 ≤ workers
