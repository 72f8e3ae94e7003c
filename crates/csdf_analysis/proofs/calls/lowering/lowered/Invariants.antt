use Rattle.std.proofs.Common.{◌+◌, ◌-◌, ◌*◌, ◌≤◌, length}
use Rattle.csdf_analysis.specs.Lowering.{IsLowered}
use Rattle.csdf_analysis.proofs.calls.lowering.lowered.Given as goal

abbrev pub invariant-loop-place : goal.invariant-loop-place
invariant-loop-place l = record {
  low : IsLowered l.net.channels l.net.firings l.place l.bounds.items;
  within : l.place ≤ l.count;
  limit : l.limit ≤ l.count;
}

abbrev pub decreases-loop-place : goal.decreases-loop-place
decreases-loop-place l = (l.count - l.place) * 129 + (l.limit - l.place)
