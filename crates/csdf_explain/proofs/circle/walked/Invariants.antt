use Rattle.std.proofs.Common.{◌≡◌, map, drop}
use Rattle.csdf_model.specs.Graph.{channel_view}
use Rattle.csdf_explain.specs.Circle.{walked}
use Rattle.csdf_explain.proofs.circle.walked.Given as goal

abbrev pub invariant-loop : goal.invariant-loop
invariant-loop l = walked (map channel_view l.channels) l.waits (drop l.index l.waits) l.actor ≡ walked (map channel_view l.channels) l.waits l.waits l.start
