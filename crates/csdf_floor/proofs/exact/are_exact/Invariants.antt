use Rattle.std.proofs.Common.{ℕ, ◌<◌}
use Rattle.csdf_floor.specs.Work.{feeds_in}
use Rattle.csdf_floor.proofs.Exacts.{IsExactAt}
use Rattle.csdf_floor.proofs.exact.are_exact.Given as goal

-- the sources so far have just the tokens that they give
abbrev pub invariant-loop-actor : goal.invariant-loop-actor
invariant-loop-actor l = (i : ℕ) → i < l.actor → IsExactAt l.accepted (feeds_in l.feeds) l.periods i
