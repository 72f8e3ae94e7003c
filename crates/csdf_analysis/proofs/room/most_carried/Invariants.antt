use Rattle.std.proofs.Common.{◌≡◌, max, map, drop}
use Rattle.csdf_model.specs.Graph.{channel_view}
use Rattle.csdf_analysis.specs.Room.{most_carried}
use Rattle.csdf_analysis.proofs.room.most_carried.Given as goal

abbrev pub invariant-loop-channel : goal.invariant-loop-channel
invariant-loop-channel l = max l.most (most_carried l.q (map channel_view (drop l.channel-index l.channels)))
    ≡ most_carried l.q (map channel_view l.channels)
