use Rattle.std.proofs.Common.{◌<◌, ℕ}
use Rattle.csdf_analysis.specs.Stalling.{IsFull}
use Rattle.csdf_analysis.proofs.waits.first_full.Given as goal

abbrev pub invariant-loop-number : goal.invariant-loop-number
invariant-loop-number l = (i : ℕ) → i < l.number → IsFull l.net.channels l.run.bounds.items l.run.counts.items l.actor i → ⊥
