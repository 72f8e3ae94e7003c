use Rattle.std.proofs.Common.{◌≡◌, ◌<◌, ℕ, length, get_or}
use Rattle.std.specs.Prelude.{slice_get, Some}
use Rattle.csdf_model.specs.Graph.{Channel}
use Rattle.csdf_analysis.proofs.run.initial_lengths.Given as goal

abbrev pub invariant-loop-number : goal.invariant-loop-number
invariant-loop-number l = record {
  so_far : length l.lengths.items ≡ l.number;
  initial : (i : ℕ) → i < l.number → (c : Channel) → slice_get l.net.channels i ≡ Some c → get_or l.lengths.items i 0 ≡ length c.initial;
}
