use Rattle.csdf_analysis.specs.Waking.{AreWaiting}
use Rattle.csdf_analysis.proofs.run.Run.next.Given as goal

abbrev pub invariant-loop-actor : goal.invariant-loop-actor
invariant-loop-actor l = AreWaiting l.net.channels l.net.firings l.self.bounds.items l.self.counts.items l.waiting

abbrev pub decreases-loop-actor : goal.decreases-loop-actor
decreases-loop-actor l = l.waiting
