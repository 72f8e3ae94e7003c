use Rattle.std.proofs.Common.{ℕ, ◌<◌, ◌≤◌, ◌-◌}
use Rattle.csdf_core.specs.Engine.{FindsNext}
use Rattle.csdf_core.proofs.firing_core.Core.walked.Given as goal

abbrev pub invariant-loop-n : goal.invariant-loop-n
invariant-loop-n l = (l.n ≤ l.limited) × ((i : ℕ) → i < l.n → FindsNext l.self.plan l.self.now l.actor i)

abbrev pub decreases-loop-n : goal.decreases-loop-n
decreases-loop-n l = l.limited - l.n
