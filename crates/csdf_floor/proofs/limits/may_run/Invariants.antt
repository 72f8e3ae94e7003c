use Rattle.std.proofs.Common.{ℕ, ◌*◌, ◌<◌, ◌≤◌, get_or}
use Rattle.csdf_floor.proofs.limits.may_run.Given as goal

-- the actors so far make few
abbrev pub invariant-loop-actor : goal.invariant-loop-actor
invariant-loop-actor l = (j : ℕ) → j < l.actor → l.periods * get_or l.firings j 0 ≤ 16384000
