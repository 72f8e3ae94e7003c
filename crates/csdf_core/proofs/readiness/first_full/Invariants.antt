use Rattle.std.proofs.Common.{◌≡◌, drop}
use Rattle.std.specs.Prelude.{find}
use Rattle.csdf_core.specs.Ports.{full_at, tokens_in}
use Rattle.csdf_core.proofs.readiness.first_full.Given as goal

abbrev pub invariant-loop-channel : goal.invariant-loop-channel
invariant-loop-channel l = find (full_at l.plan.channels l.actor l.turn.firing (tokens_in l.pool)) (drop l.channel-index l.outputs) ≡ find
    (full_at l.plan.channels l.actor l.turn.firing (tokens_in l.pool)) l.outputs
