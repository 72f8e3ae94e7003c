use Rattle.std.proofs.Common.{◌≡◌, ◌+◌, map, drop}
use Rattle.csdf_model.specs.Graph.{channel_view}
use Rattle.csdf_analysis.specs.Most.{given_by}
use Rattle.csdf_analysis.proofs.most.given_by.Given as goal

abbrev pub invariant-loop-channel : goal.invariant-loop-channel
invariant-loop-channel l = l.given + given_by (map channel_view (drop l.channel-index l.channels)) l.actor l.firings
    ≡ given_by (map channel_view l.channels) l.actor l.firings
