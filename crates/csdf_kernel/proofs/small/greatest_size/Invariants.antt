use Rattle.std.proofs.Common.{ℕ, ◌≤◌, ◌<◌, unsigned_abs}
use Rattle.csdf_kernel.specs.Value.{token_at}
use Rattle.csdf_kernel.proofs.small.greatest_size.Given as goal

abbrev pub invariant-loop-number : goal.invariant-loop-number
invariant-loop-number l = (j : ℕ) → j < l.number-index → unsigned_abs (token_at l.numbers j) ≤ l.greatest
