use Rattle.std.proofs.Common.{◌≡◌}
use Rattle.csdf_analysis.proofs.GrantLemmas.{roomy_graph}
use Rattle.csdf_analysis.proofs.room.give_room.Given as goal

abbrev pub invariant-loop-number : goal.invariant-loop-number
invariant-loop-number l = l.graph ≡ roomy_graph l.vector.q.items l.periods l.number l.fn.graph
