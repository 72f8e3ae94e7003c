use Rattle.std.proofs.Common.{◌≡◌, ◌++◌, map, drop}
use Rattle.csdf_model.specs.Graph.{channel_view}
use Rattle.csdf_analysis.specs.Lowering.{first_bounds}
use Rattle.csdf_analysis.proofs.calls.capacities.first_bounds.Given as goal

abbrev pub invariant-loop-channel : goal.invariant-loop-channel
invariant-loop-channel l = l.bounds.items ++ first_bounds l.q (map channel_view (drop l.channel-index l.channels))
    ≡ first_bounds l.q (map channel_view l.channels)
