use Rattle.std.proofs.Common.{ℕ, ◌≡◌, ◌<◌, length, get_or}
use Rattle.csdf_analysis.specs.Fewer.{IsMostAlone}
use Rattle.csdf_analysis.proofs.most.all_alone.Given as goal

abbrev pub invariant-loop-actor : goal.invariant-loop-actor
invariant-loop-actor l = record {
  so_far : length l.alone.items ≡ l.actor;
  each : (a : ℕ) → a < length l.alone.items → IsMostAlone l.accepted l.periods l.tokens a (get_or l.alone.items a 0);
}
