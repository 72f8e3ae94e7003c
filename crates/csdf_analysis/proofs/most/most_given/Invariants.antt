use Rattle.std.proofs.Common.{ℕ, ◌-◌, ◌≤◌, map}
use Rattle.csdf_model.specs.Graph.{channel_view}
use Rattle.csdf_analysis.specs.Most.{given_by}
use Rattle.csdf_analysis.proofs.most.most_given.Given as goal

abbrev pub invariant-loop-low : goal.invariant-loop-low
invariant-loop-low l = record {
  order : l.low ≤ l.high;
  high : l.high ≤ l.before;
  fits : given_by (map channel_view l.channels) l.actor l.low ≤ l.tokens;
  greatest : (n : ℕ) → n ≤ l.before → given_by (map channel_view l.channels) l.actor n ≤ l.tokens → n ≤ l.high;
}

abbrev pub decreases-loop-low : goal.decreases-loop-low
decreases-loop-low l = l.high - l.low
