use Rattle.std.proofs.Common.{◌≡◌, ◌*◌, ◌^◌, ◌≤◌, unsigned_abs}
use Rattle.csdf_kernel.specs.Value.{convolution}
use Rattle.csdf_kernel.proofs.small.small_sum_at.Given as goal

abbrev pub invariant-loop-next : goal.invariant-loop-next
invariant-loop-next g l =
    (l.sum ≡ convolution l.weights l.next l.inputs l.place) × (unsigned_abs l.sum ≤ l.next * 2 ^ 58)
