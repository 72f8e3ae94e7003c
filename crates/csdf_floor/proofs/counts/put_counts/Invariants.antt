use Rattle.std.proofs.Common.{◌≡◌, ◌≤◌, ◌++◌, drop, map}
use Rattle.std.specs.Prelude.{All}
use Rattle.csdf_core.specs.Ports.{give_at}
use Rattle.csdf_floor.proofs.counts.put_counts.Given as goal

abbrev pub invariant-loop-channel : goal.invariant-loop-channel
invariant-loop-channel l = record {
  counts : l.counts.items ++ map (give_at l.core.plan.channels l.turn.firing) (drop l.channel-index l.channel-items)
      ≡ map (give_at l.core.plan.channels l.turn.firing) l.channel-items;
  small : All (λ n. n ≤ 64) l.counts.items;
}
