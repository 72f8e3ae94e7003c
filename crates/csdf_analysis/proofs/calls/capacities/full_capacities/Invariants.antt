use Rattle.std.proofs.Common.{◌≡◌, ◌++◌, map, drop}
use Rattle.csdf_model.specs.Graph.{channel_view}
use Rattle.csdf_analysis.specs.Capacities.{full_capacities}
use Rattle.csdf_analysis.proofs.calls.capacities.full_capacities.Given as goal

abbrev pub invariant-loop-channel : goal.invariant-loop-channel
invariant-loop-channel l = l.full.items ++ full_capacities l.q (map channel_view (drop l.channel-index l.channels))
    ≡ full_capacities l.q (map channel_view l.channels)
