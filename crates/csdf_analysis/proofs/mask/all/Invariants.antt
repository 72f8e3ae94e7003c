use Rattle.std.proofs.Common.{◌<◌, ℕ}
use Rattle.csdf_analysis.specs.Waking.{AreActors, IsIn}
use Rattle.csdf_analysis.proofs.mask.all.Given as goal

abbrev pub invariant-loop-actor : goal.invariant-loop-actor
invariant-loop-actor l = record {
  all : (a : ℕ) → a < l.actor → IsIn l.mask a;
  actors : AreActors l.actor l.mask;
}
