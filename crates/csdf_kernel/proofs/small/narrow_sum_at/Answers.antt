use Rattle.std.proofs.Common.{arith, sym}
use Rattle.std.proofs.lemmas.Int.{ints, to_z-of_z}
use Rattle.csdf_kernel.proofs.NumberLemmas.{convolution_none, convolution_more}
use Rattle.csdf_kernel.proofs.small.narrow_sum_at.Goals as goal

pub loop-tap-init : goal.loop-tap-init
loop-tap-init g c = (sym (convolution_none _ _ _), omega arith)

pub loop-tap-preserved : goal.loop-tap-preserved
loop-tap-preserved g c = (grind (arith, ints, to_z-of_z, convolution_more), omega (arith, ints))
