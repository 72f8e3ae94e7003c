use Rattle.std.proofs.Common.{◌≡◌, map, drop}
use Rattle.csdf_model.specs.Graph.{channel_view}
use Rattle.csdf_graph.specs.Connected.{join_all, groups_of}
use Rattle.csdf_graph.proofs.connected.groups_of.Given as goal

abbrev pub invariant-loop-channel : goal.invariant-loop-channel
invariant-loop-channel l = join_all l.groups.items (map channel_view (drop l.channel-index l.channels)) ≡ groups_of l.count (map channel_view l.channels)
