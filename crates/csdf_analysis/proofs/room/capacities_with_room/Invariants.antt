use Rattle.std.proofs.Common.{◌≡◌, ◌++◌, map, drop}
use Rattle.csdf_model.specs.Graph.{channel_view}
use Rattle.csdf_analysis.specs.Room.{capacities_with_room}
use Rattle.csdf_analysis.proofs.room.capacities_with_room.Given as goal

abbrev pub invariant-loop-channel : goal.invariant-loop-channel
invariant-loop-channel l = l.capacities.items ++ capacities_with_room l.q l.periods (map channel_view (drop l.channel-index l.channels))
    ≡ capacities_with_room l.q l.periods (map channel_view l.channels)
