use Rattle.std.proofs.Common.{◌≡◌, ◌*◌, ◌^◌, ◌≤◌, unsigned_abs}
use Rattle.csdf_kernel.specs.Value.{convolution}
use Rattle.csdf_kernel.proofs.small.narrow_sum_at.Given as goal

abbrev pub invariant-loop-tap : goal.invariant-loop-tap
invariant-loop-tap g l =
    (l.sum ≡ convolution l.weights l.tap l.inputs l.place) × (unsigned_abs l.sum ≤ l.tap * 2 ^ 26)
