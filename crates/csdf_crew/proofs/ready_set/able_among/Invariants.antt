use Rattle.std.proofs.Common.{◌⊎◌, ℕ}
use Rattle.csdf_analysis.specs.Waking.{IsIn}
use Rattle.csdf_crew.specs.Looking.{CanBegin}
use Rattle.csdf_crew.proofs.ready_set.able_among.Given as goal

abbrev pub invariant-loop-actor : goal.invariant-loop-actor
invariant-loop-actor l = record {
  able : (a : ℕ) → IsIn l.initial.mask a → CanBegin l.core a → IsIn l.left a ⊎ IsIn l.able a;
  only : (a : ℕ) → IsIn l.able a → CanBegin l.core a;
}

abbrev pub decreases-loop-actor : goal.decreases-loop-actor
decreases-loop-actor l = l.left
