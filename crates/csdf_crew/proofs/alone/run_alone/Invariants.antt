use Rattle.std.specs.Prelude.{◌≡◌}
use Rattle.csdf_crew.proofs.alone.run_alone.Given as goal

abbrev pub invariant-loop : goal.invariant-loop
invariant-loop g l = record {
  keeps : l.floor.keeps ≡ l.fn.floor.keeps;
  work : l.floor.work ≡ l.fn.floor.work;
}
