use Rattle.std.proofs.Common.{ℕ, ◌<◌}
use Rattle.csdf_core.specs.Step.{Rests}
use Rattle.csdf_core.proofs.firing_core.Core.is_quiet.Given as goal

-- the actors so far rest
abbrev pub invariant-loop-actor : goal.invariant-loop-actor
invariant-loop-actor l = (a : ℕ) → a < l.actor → Rests l.self.plan l.self.now a
