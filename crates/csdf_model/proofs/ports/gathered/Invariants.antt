use Rattle.std.proofs.Common.{◌≡◌, map}
use Rattle.csdf_model.specs.Graph.{channel_view, ports_view}
use Rattle.csdf_model.specs.Kept.{all_ports}
use Rattle.csdf_model.proofs.ports.gathered.Given as goal

abbrev pub invariant-loop-actor : goal.invariant-loop-actor
invariant-loop-actor l = map ports_view l.ports.items ≡ all_ports (map channel_view l.channels) l.actor
