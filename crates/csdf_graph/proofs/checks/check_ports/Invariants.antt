use Rattle.std.proofs.Common.{drop, map}
use Rattle.csdf_graph.specs.declared.fault.GraphFault.TheVariants.{KernelPorts}
use Rattle.csdf_graph.specs.Passes.{check}
use Rattle.csdf_model.specs.Graph.{actor_view, channel_view}
use Rattle.csdf_model.specs.Checks.{has_ports}
use Rattle.csdf_graph.proofs.PassLemmas.{Checked}
use Rattle.csdf_graph.proofs.checks.check_ports.Given as goal

abbrev pub invariant-loop-place : goal.invariant-loop-place
invariant-loop-place l = Checked l.checked (check KernelPorts (has_ports (map channel_view l.channels)) l.place (map actor_view (drop l.place l.actors)))
    (check KernelPorts (has_ports (map channel_view l.channels)) 0 (map actor_view l.actors))
