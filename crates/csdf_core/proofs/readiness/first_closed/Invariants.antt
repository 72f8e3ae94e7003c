use Rattle.std.proofs.Common.{◌≡◌, drop}
use Rattle.std.specs.Prelude.{find}
use Rattle.csdf_core.specs.Ports.{closed_at}
use Rattle.csdf_core.proofs.readiness.first_closed.Given as goal

abbrev pub invariant-loop-channel : goal.invariant-loop-channel
invariant-loop-channel l = find (closed_at l.opens) (drop l.channel-index l.outputs) ≡ find (closed_at l.opens) l.outputs
