use Rattle.std.proofs.Common.{◌≡◌, ◌+◌, ◌*◌, ◌≤◌, drop}
use Rattle.std.specs.Prelude.{sum_by}
use Rattle.csdf_core.specs.Ports.{take_at}
use Rattle.csdf_core.proofs.gathering.taken_before.Given as goal

abbrev pub invariant-loop-channel : goal.invariant-loop-channel
invariant-loop-channel l = record {
  told : l.sum + sum_by (take_at l.plan.channels l.turn.firing) (drop l.channel-index l.numbers) ≡ sum_by (take_at l.plan.channels l.turn.firing) l.numbers;
  small : l.sum ≤ 64 * l.channel-index;
}
