use Rattle.std.proofs.Common.{ℕ, ◌≡◌, ◌<◌, ◌≤◌, length, pos}
use Rattle.csdf_kernel.specs.Value.{token_at}
use Rattle.csdf_kernel.proofs.filter.Filter.padded.Given as goal

abbrev pub invariant-loop-tap : goal.invariant-loop-tap
invariant-loop-tap l = record {
  long : length l.padded ≡ 16;
  alike : (j : ℕ) → j < l.tap → token_at l.padded j ≡ token_at l.self.weights.now j;
  zeros : (j : ℕ) → l.tap ≤ j → token_at l.padded j ≡ pos 0;
}
