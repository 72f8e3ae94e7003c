use Rattle.std.proofs.Common.{map}
use Rattle.csdf_model.specs.Graph.{channel_view}
use Rattle.csdf_explain.proofs.DistanceLemmas.{SpreadSoFar}
use Rattle.csdf_explain.proofs.way.spread.Given as goal

abbrev pub invariant-loop-channel : goal.invariant-loop-channel
invariant-loop-channel l = SpreadSoFar (map channel_view l.channels) l.channel-index l.count l.initial.distances l.distances l.is_more
