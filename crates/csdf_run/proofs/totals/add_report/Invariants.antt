use Rattle.csdf_run.proofs.Totalling.{AreAdded}
use Rattle.csdf_run.proofs.totals.add_report.Given as goal

abbrev pub invariant-loop-channel : goal.invariant-loop-channel
invariant-loop-channel l = AreAdded l.channel l.fn.totals l.report l.totals
