use Rattle.std.proofs.Common.{◌≡◌, ◌+◌, ◌≤◌, drop, map}
use Rattle.std.specs.Prelude.{sum_by}
use Rattle.csdf_model.specs.Graph.{channel_view}
use Rattle.csdf_floor.specs.Continuing.{given_in, given_to}
use Rattle.csdf_run.specs.Totals.{capped}
use Rattle.csdf_stream.proofs.lengths.tokens_given.Given as goal

-- the sum so far, with what the channels to come get
abbrev pub invariant-loop-channel : goal.invariant-loop-channel
invariant-loop-channel l = record {
  small : l.sum ≤ 18446744073709551615;
  so_far : capped (l.sum + sum_by (given_to l.actor l.firings) (drop l.channel-index (map channel_view l.channels)))
      ≡ capped (given_in (map channel_view l.channels) l.actor l.firings);
}
