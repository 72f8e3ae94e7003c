use Rattle.std.proofs.Common.{arith}
use Rattle.std.proofs.lemmas.List.Sums.{sum_by-le}
use Rattle.csdf_kernel.proofs.outputs.push_value_by.Goals as goal

pub total_of-count-requires : goal.total_of-count-requires
total_of-count-requires c = omega (arith, sum_by-le (λ x. x) 64 c.args.counts.now c.requires.small_counts)

pub push_filtered-requires-clause-few : goal.push_filtered-requires-clause-few
push_filtered-requires-clause-few c = omega (arith, sum_by-le (λ x. x) 64 c.args.counts.now c.requires.small_counts)
