use Rattle.std.proofs.Common.{◌+◌, get_or}
use Rattle.csdf_analysis.proofs.FiringLemmas.{AreChanged}
use Rattle.csdf_analysis.proofs.run.put.Given as goal

abbrev pub invariant-loop-number : goal.invariant-loop-number
invariant-loop-number l = AreChanged (λ n d. n + get_or d.produce l.phase 0) l.net.channels l.number-items l.initial.lengths l.lengths l.number-index
