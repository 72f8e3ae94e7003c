use Rattle.std.proofs.Common.{◌≡◌, ◌+◌, drop, map}
use Rattle.std.specs.Prelude.{sum_by}
use Rattle.csdf_model.specs.Graph.{channel_view}
use Rattle.csdf_floor.specs.Continuing.{given_in, given_to}
use Rattle.csdf_floor.proofs.exact.gives.Given as goal

-- what is left of the tokens is what the channels to come have to get
abbrev pub invariant-loop-channel : goal.invariant-loop-channel
invariant-loop-channel l =
    l.tokens + sum_by (given_to l.actor l.firings) (drop l.channel-index (map channel_view l.channels))
    ≡ l.rest + given_in (map channel_view l.channels) l.actor l.firings
