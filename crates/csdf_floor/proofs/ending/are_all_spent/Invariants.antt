use Rattle.std.proofs.Common.{◌≡◌, ◌<◌, ℕ, true}
use Rattle.csdf_core.specs.Step.{is_spent}
use Rattle.csdf_floor.proofs.ending.are_all_spent.Given as goal

abbrev pub invariant-loop-actor : goal.invariant-loop-actor
invariant-loop-actor l = (a : ℕ) → a < l.actor → is_spent l.fn.core.plan l.fn.core.now a ≡ true
