use Rattle.std.proofs.Common.{◌≡◌, ◌+◌, ◌-◌, ◌≤◌}
use Rattle.csdf_model.specs.Graph.{channel_view}
use Rattle.csdf_model.specs.Rates.{consumed}
use Rattle.csdf_analysis.proofs.calls.alone.take_all.Given as goal

abbrev pub invariant-loop-taken : goal.invariant-loop-taken
invariant-loop-taken l = record {
  kept : l.held + consumed (channel_view l.channel) l.taken ≡ l.fn.held + consumed (channel_view l.channel) l.fn.taken;
  within : l.fn.taken ≤ l.last → l.taken ≤ l.last;
}

abbrev pub decreases-loop-taken : goal.decreases-loop-taken
decreases-loop-taken l = l.last - l.taken
