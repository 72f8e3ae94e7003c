use Rattle.std.proofs.Common.{ℕ, ◌<◌, map}
use Rattle.csdf_model.specs.Graph.{channel_view}
use Rattle.csdf_explain.specs.Distances.{IsStep}
use Rattle.csdf_explain.proofs.way.step.Given as goal

abbrev pub invariant-loop-number : goal.invariant-loop-number
invariant-loop-number l = (m b : ℕ) → m < l.number → IsStep (map channel_view l.channels) l.distances l.actor l.count m b → ⊥
