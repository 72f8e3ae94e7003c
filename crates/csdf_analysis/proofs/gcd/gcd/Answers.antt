use Rattle.std.proofs.Common.{arith}
use Rattle.csdf_analysis.proofs.DivisorLemmas.{divisor_from_zero, divisor_from_rest}
use Rattle.csdf_analysis.proofs.gcd.gcd.Goals as goal

pub loop-y-preserved : goal.loop-y-preserved
loop-y-preserved c g h = c.loop-y.invariant g (divisor_from_rest _ _ g h)

pub returns : goal.returns
returns c = c.loop-y.invariant _ (divisor_from_zero _ _ (omega arith))
