use Rattle.std.proofs.Common.{◌≡◌, ◌≤◌, ◌-◌, sum}
use Rattle.csdf_analysis.specs.Running.{IsRun}
use Rattle.csdf_analysis.specs.Waking.{AreWaiting}
use Rattle.csdf_analysis.proofs.run.Run.go_on.Given as goal

abbrev pub invariant-loop-actor : goal.invariant-loop-actor
invariant-loop-actor l = record {
  run : IsRun l.net l.self;
  bounds : l.self.bounds.items ≡ l.initial.self.bounds.items;
  firings : l.initial.self.firings ≤ l.self.firings;
  waiting : AreWaiting l.net.channels l.net.firings l.self.bounds.items l.self.counts.items l.waiting;
}

abbrev pub decreases-loop-actor : goal.decreases-loop-actor
decreases-loop-actor l = sum l.net.firings - l.self.firings
