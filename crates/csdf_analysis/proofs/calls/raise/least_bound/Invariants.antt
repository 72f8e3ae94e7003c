use Rattle.std.proofs.Common.{◌-◌, sum}
use Rattle.csdf_analysis.specs.Running.{IsRun, IsStalled}
use Rattle.csdf_analysis.specs.Waking.{AreWaiting}
use Rattle.csdf_analysis.proofs.SearchLemmas.{IsSearch}
use Rattle.csdf_analysis.proofs.calls.raise.least_bound.Given as goal

abbrev pub invariant-loop-run : goal.invariant-loop-run
invariant-loop-run l = record {
  run : IsRun l.net l.run;
  stalled : IsStalled l.net.channels l.net.firings l.run.bounds.items l.run.counts.items;
  search : IsSearch l.net.channels l.net.firings l.bounds l.run.bounds.items l.number;
  waiting : AreWaiting l.net.channels l.net.firings l.run.bounds.items l.run.counts.items l.waiting;
}

abbrev pub decreases-loop-run : goal.decreases-loop-run
decreases-loop-run l = sum l.net.firings - l.run.firings
