use Rattle.std.proofs.Common.{◌≡◌, ℕ, ◌<◌, Some, length, map, get_or}
use Rattle.std.specs.Prelude.{slice_get}
use Rattle.csdf_model.specs.Graph.{Channel, channel_view}
use Rattle.csdf_analysis.specs.Alone.{IsOwnBound}
use Rattle.csdf_analysis.proofs.calls.alone.own_bounds.Given as goal

abbrev pub invariant-loop-channel : goal.invariant-loop-channel
invariant-loop-channel l = record {
  count : length l.bounds.items ≡ l.channel-index;
  own : (i : ℕ) (c : Channel) → i < l.channel-index → slice_get (map channel_view l.channels) i ≡ Some c → IsOwnBound l.q c (get_or l.bounds.items i 0);
}
