use Rattle.std.proofs.Common.{◌≡◌, ◌++◌, ◌*◌, ◌≤◌, drop, map}
use Rattle.std.specs.Prelude.{All}
use Rattle.csdf_floor.proofs.blank.limits_of.Given as goal

abbrev pub invariant-loop-actor : goal.invariant-loop-actor
invariant-loop-actor l = record {
  limits : l.limits.items ++ map (λ q. l.periods * q) (drop l.actor l.firings) ≡ map (λ q. l.periods * q) l.firings;
  few : All (λ n. n ≤ 16384000) l.limits.items;
}
