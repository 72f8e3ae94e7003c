use Rattle.csdf_core.proofs.Fired.{IsLeft}
use Rattle.csdf_core.proofs.firing_core.Core.fire_each.Given as goal

abbrev pub invariant-loop-left : goal.invariant-loop-left
invariant-loop-left l = IsLeft l.actor l.fn.self l.self l.n l.tokens l.left l.rest

abbrev pub decreases-loop-left : goal.decreases-loop-left
decreases-loop-left l = l.left
