use Rattle.std.proofs.Common.{◌≡◌, drop}
use Rattle.std.specs.Prelude.{find}
use Rattle.csdf_core.specs.Ports.{short_at, tokens_in}
use Rattle.csdf_core.proofs.readiness.first_short.Given as goal

abbrev pub invariant-loop-channel : goal.invariant-loop-channel
invariant-loop-channel l = find (short_at l.plan.channels l.turn.firing (tokens_in l.pool)) (drop l.channel-index l.inputs) ≡ find
    (short_at l.plan.channels l.turn.firing (tokens_in l.pool)) l.inputs
