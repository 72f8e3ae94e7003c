use Rattle.std.proofs.Common.{◌≡◌, ◌-◌, ◌++◌, ℕ, List, sum}
use Rattle.csdf_analysis.specs.Period.{IsScheduleFrom, IsScheduleOf}
use Rattle.csdf_analysis.specs.Running.{IsRun}
use Rattle.csdf_analysis.specs.Waking.{AreWaiting}
use Rattle.csdf_analysis.proofs.calls.schedule.in_order.Given as goal

abbrev pub invariant-loop-actor : goal.invariant-loop-actor
invariant-loop-actor l = record {
  run : IsRun l.net l.run;
  bounds : l.run.bounds.items ≡ l.fn.bounds.items;
  waiting : AreWaiting l.net.channels l.net.firings l.run.bounds.items l.run.counts.items l.waiting;
  so_far : (rest : List ℕ) → IsScheduleFrom l.net.channels l.net.firings l.run.bounds.items l.run.counts.items rest
      → IsScheduleOf l.net.channels l.net.firings l.run.bounds.items (l.schedule.items ++ rest);
}

abbrev pub decreases-loop-actor : goal.decreases-loop-actor
decreases-loop-actor l = sum l.net.firings - l.run.firings
