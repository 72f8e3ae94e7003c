use Rattle.std.proofs.Common.{◌≡◌, ◌+◌, ◌*◌, ◌≤◌, drop}
use Rattle.std.specs.Prelude.{sum_by}
use Rattle.csdf_core.specs.Sides.{amounts_at}
use Rattle.csdf_core.proofs.ahead.moved_in_all.Given as goal

abbrev pub invariant-loop-channel : goal.invariant-loop-channel
invariant-loop-channel l = record {
  told : l.sum + sum_by (amounts_at l.side l.plan.channels l.firing l.n) (drop l.channel-index l.ends)
      ≡ sum_by (amounts_at l.side l.plan.channels l.firing l.n) l.ends;
  small : l.sum ≤ 1048576000 * l.channel-index;
}
