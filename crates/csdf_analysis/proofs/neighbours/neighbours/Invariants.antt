use Rattle.std.proofs.Common.{length}
use Rattle.csdf_analysis.specs.Waking.{AreNeighbours}
use Rattle.csdf_analysis.proofs.neighbours.neighbours.Given as goal

abbrev pub invariant-loop-actor : goal.invariant-loop-actor
invariant-loop-actor l = AreNeighbours l.graph.channels (length l.graph.actors) l.actor l.masks.items
