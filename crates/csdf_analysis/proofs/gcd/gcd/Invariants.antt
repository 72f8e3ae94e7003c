use Rattle.std.proofs.Common.{ℕ}
use Rattle.csdf_analysis.specs.Divisor.{IsGreatestDivisor}
use Rattle.csdf_analysis.proofs.gcd.gcd.Given as goal

abbrev pub invariant-loop-y : goal.invariant-loop-y
invariant-loop-y l = (g : ℕ) → IsGreatestDivisor l.x l.y g → IsGreatestDivisor l.fn.a l.fn.b g

abbrev pub decreases-loop-y : goal.decreases-loop-y
decreases-loop-y l = l.y
