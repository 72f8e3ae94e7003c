use Rattle.std.proofs.Common.{◌≤◌}
use Rattle.csdf_model.specs.Rates.{total}
use Rattle.csdf_analysis.proofs.most.most_moved.Given as goal

abbrev pub invariant-loop-firings : goal.invariant-loop-firings
invariant-loop-firings l = total l.rates l.firings ≤ l.tokens
