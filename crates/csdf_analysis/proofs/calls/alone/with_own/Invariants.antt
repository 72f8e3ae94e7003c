use Rattle.csdf_analysis.specs.Alone.{AreOwnFrom}
use Rattle.csdf_analysis.proofs.calls.alone.with_own.Given as goal

abbrev pub invariant-loop-number : goal.invariant-loop-number
invariant-loop-number l = AreOwnFrom l.own l.fn.bounds l.next.items l.place l.number
