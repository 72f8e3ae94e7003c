use Rattle.std.proofs.Common.{◌≡◌, drop, map, nat_le}
use Rattle.csdf_graph.specs.Shape.{channel_view as draft_of_channel}
use Rattle.csdf_graph.specs.Ranges.{initial_count}
use Rattle.csdf_graph.proofs.ranges.have_room.Given as goal

abbrev pub invariant-loop-channel : goal.invariant-loop-channel
invariant-loop-channel l = nat_le (initial_count (map draft_of_channel (drop l.channel-index l.channels))) l.room
    ≡ nat_le (initial_count (map draft_of_channel l.channels)) l.cells
