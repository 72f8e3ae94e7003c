use Rattle.std.proofs.Common.{ℕ, List, map, sum}
use Rattle.csdf_model.specs.Graph.{channel_view}
use Rattle.csdf_analysis.specs.Laws.{IsWithinAll}
use Rattle.csdf_analysis.specs.Most.{FitsChannels}
use Rattle.csdf_analysis.proofs.most.lower_until_fitting.Given as goal

abbrev pub invariant-loop : goal.invariant-loop
invariant-loop l = record {
  within : IsWithinAll l.most l.fn.most;
  kept : (n : List ℕ) → FitsChannels (map channel_view l.channels) l.capacities n → IsWithinAll n l.fn.most → IsWithinAll n l.most;
}

abbrev pub decreases-loop : goal.decreases-loop
decreases-loop l = sum l.most
