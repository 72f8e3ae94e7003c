use Rattle.std.proofs.Common.{◌≡◌, ◌+◌, ◌*◌, ◌≤◌, drop, map}
use Rattle.std.specs.Prelude.{sum_by}
use Rattle.csdf_core.specs.PlanInside.{channel_in}
use Rattle.csdf_core.specs.Sides.{amount_at}
use Rattle.csdf_core.proofs.planned.moved_in.Given as goal

abbrev pub invariant-loop-channel : goal.invariant-loop-channel
invariant-loop-channel l = record {
  told : l.sum + sum_by (amount_at l.side (map channel_in l.channels) l.phase) (drop l.channel-index l.ends)
      ≡ sum_by (amount_at l.side (map channel_in l.channels) l.phase) l.ends;
  small : l.sum ≤ 64 * l.channel-index;
}
