use Rattle.std.proofs.Common.{◌≡◌, ◌++◌, map, drop}
use Rattle.csdf_model.specs.Graph.{channel_view}
use Rattle.csdf_explain.specs.Circle.{circle_at, round}
use Rattle.csdf_explain.proofs.circle.circle_at.Given as goal

abbrev pub invariant-loop : goal.invariant-loop
invariant-loop l = l.found.items ++ round (map channel_view l.channels) l.waits (drop l.index l.waits) l.first l.actor
    ≡ circle_at (map channel_view l.channels) l.waits l.first
