use Rattle.std.proofs.Common.{◌≡◌, ◌+◌, ◌*◌, ◌≤◌, drop}
use Rattle.csdf_core.specs.Feedback.{before_of}
use Rattle.csdf_core.specs.Ports.{give_at}
use Rattle.csdf_core.proofs.feedback.given_before.Given as goal

abbrev pub invariant-loop-channel : goal.invariant-loop-channel
invariant-loop-channel l = record {
  told : l.sum + before_of (give_at l.plan.channels l.turn.firing) (drop l.channel-index l.outputs) l.own
      ≡ before_of (give_at l.plan.channels l.turn.firing) l.outputs l.own;
  small : l.sum ≤ 64 * l.channel-index;
}
