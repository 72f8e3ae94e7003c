use Rattle.std.proofs.Common.{◌<◌, ℕ}
use Rattle.csdf_analysis.specs.Stalling.{IsShort}
use Rattle.csdf_analysis.proofs.waits.first_short.Given as goal

abbrev pub invariant-loop-number : goal.invariant-loop-number
invariant-loop-number l = (i : ℕ) → i < l.number → IsShort l.net.channels l.run.counts.items l.actor i → ⊥
