use Rattle.std.proofs.Common.{arith}
use Rattle.std.proofs.lemmas.List.Sums.{sum_by-le}
use Rattle.csdf_kernel.proofs.outputs.outputs_into.Goals as goal

pub total_of-requires : goal.total_of-requires
total_of-requires c = omega (arith, sum_by-le (λ x. x) 64 c.args.counts.now c.requires.small_counts, c.requires.few_counts)
