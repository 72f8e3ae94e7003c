use Rattle.std.proofs.Common.{drop, map}
use Rattle.csdf_graph.specs.declared.fault.GraphFault.TheVariants.{ZeroRate}
use Rattle.csdf_graph.specs.Passes.{check}
use Rattle.csdf_model.specs.Graph.{channel_view}
use Rattle.csdf_model.specs.Checks.{has_rates}
use Rattle.csdf_graph.proofs.PassLemmas.{Checked}
use Rattle.csdf_graph.proofs.checks.check_rates.Given as goal

abbrev pub invariant-loop-place : goal.invariant-loop-place
invariant-loop-place l = Checked l.checked (check ZeroRate has_rates l.place (map channel_view (drop l.place l.channels)))
    (check ZeroRate has_rates 0 (map channel_view l.channels))
