use Rattle.std.proofs.Common.{map}
use Rattle.csdf_model.specs.Graph.{channel_view}
use Rattle.csdf_analysis.proofs.MostLemmas.{AreLessened}
use Rattle.csdf_analysis.proofs.most.lower_all.Given as goal

abbrev pub invariant-loop-number : goal.invariant-loop-number
invariant-loop-number l = AreLessened (map channel_view l.channels) l.capacities l.fn.most l.most l.number l.is_lower
