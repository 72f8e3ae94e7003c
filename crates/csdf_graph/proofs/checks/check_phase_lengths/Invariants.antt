use Rattle.std.proofs.Common.{drop, map}
use Rattle.csdf_graph.specs.declared.fault.GraphFault.TheVariants.{PhaseLength}
use Rattle.csdf_graph.specs.Passes.{check}
use Rattle.csdf_model.specs.Graph.{actor_view, channel_view}
use Rattle.csdf_model.specs.Checks.{phase_lengths_fit}
use Rattle.csdf_graph.proofs.PassLemmas.{Checked}
use Rattle.csdf_graph.proofs.checks.check_phase_lengths.Given as goal

abbrev pub invariant-loop-place : goal.invariant-loop-place
invariant-loop-place l = Checked l.checked (check PhaseLength (phase_lengths_fit (map actor_view l.actors)) l.place (map channel_view (drop l.place l.channels)))
    (check PhaseLength (phase_lengths_fit (map actor_view l.actors)) 0 (map channel_view l.channels))
