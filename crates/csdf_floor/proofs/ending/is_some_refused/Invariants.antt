use Rattle.std.proofs.Common.{◌≡◌, ◌<◌, ℕ, Some}
use Rattle.csdf_core.specs.Moves.{Begin}
use Rattle.csdf_core.specs.Step.{refusal}
use Rattle.csdf_floor.proofs.ending.is_some_refused.Given as goal

abbrev pub invariant-loop-actor : goal.invariant-loop-actor
invariant-loop-actor l = (a : ℕ) → a < l.actor → refusal l.fn.core.plan l.fn.core.now (Begin a) ≡ Some l.why → ⊥
