use Rattle.std.proofs.Common.{◌≡◌, ◌*◌, take, pos, neg_ℤ, ◌≤ℤ◌}
use Rattle.csdf_kernel.specs.Value.{total}
use Rattle.csdf_kernel.proofs.numbers.sum_of.Given as goal

abbrev pub invariant-loop-token : goal.invariant-loop-token
invariant-loop-token l =
    (l.sum ≡ total (take l.token-index l.inputs)) × (neg_ℤ (pos (2147483648 * l.token-index)) ≤ℤ l.sum) × (l.sum ≤ℤ pos (2147483648 * l.token-index))
