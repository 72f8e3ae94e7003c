use Rattle.std.proofs.Common.{◌≡◌, ℕ, ◌<◌, Some, map}
use Rattle.std.specs.Prelude.{slice_get}
use Rattle.csdf_model.specs.Graph.{Channel, channel_view}
use Rattle.csdf_analysis.specs.Alone.{HasEnough}
use Rattle.csdf_analysis.proofs.calls.alone.first_tight.Given as goal

abbrev pub invariant-loop-number : goal.invariant-loop-number
invariant-loop-number l = (i : ℕ) (c : Channel) → i < l.number → slice_get (map channel_view l.channels) i ≡ Some c → HasEnough l.q c
