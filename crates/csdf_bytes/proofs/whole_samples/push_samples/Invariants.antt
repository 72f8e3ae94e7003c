use Rattle.std.proofs.Common.{◌≡◌, ◌+◌, ◌-◌, ◌*◌, ◌≤◌, ◌++◌, length, vec_len}
use Rattle.std.specs.Prelude.{vec_capacity}
use Rattle.csdf_bytes.specs.Samples.{first_samples, size_of}
use Rattle.csdf_bytes.proofs.whole_samples.push_samples.Given as goal

abbrev pub invariant-loop-count : goal.invariant-loop-count
invariant-loop-count l = record {
  few : l.count ≤ l.most;
  used : l.used ≡ size_of l.format * l.count;
  within : l.used ≤ length l.bytes;
  so_far : l.tokens.items ≡ l.fn.tokens.items ++ first_samples l.format l.count l.bytes;
  grown : vec_len l.tokens ≡ vec_len l.fn.tokens + l.count;
  room : vec_capacity l.fn.tokens ≤ vec_capacity l.tokens;
}

abbrev pub decreases-loop-count : goal.decreases-loop-count
decreases-loop-count l = l.most - l.count
