use Rattle.std.proofs.Common.{ℕ, ◌≡◌, ◌+◌, ◌<◌, ◌≤◌, length, pos}
use Rattle.csdf_kernel.specs.Value.{token_at}
use Rattle.csdf_kernel.proofs.small.window_from.Given as goal

abbrev pub invariant-loop-at : goal.invariant-loop-at
invariant-loop-at l = record {
  long : length l.window ≡ 32;
  alike : (i : ℕ) → i < l.at → token_at l.window i ≡ token_at l.inputs (l.base + i);
  zeros : (i : ℕ) → l.at ≤ i → token_at l.window i ≡ pos 0;
}
