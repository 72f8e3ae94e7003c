use Rattle.std.proofs.Common.{arith}
use Rattle.std.proofs.lemmas.Int.{ints, to_z-of_z}
use Rattle.std.proofs.lemmas.List.Sums.{fold_more}
use Rattle.csdf_kernel.proofs.numbers.sum_of.Goals as goal

pub loop-token-preserved : goal.loop-token-preserved
loop-token-preserved c =
    (grind (arith, ints, to_z-of_z, fold_more), omega (arith, ints), omega (arith, ints))
