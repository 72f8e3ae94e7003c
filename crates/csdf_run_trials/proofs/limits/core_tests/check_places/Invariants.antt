use Rattle.std.proofs.Common.{◌≡◌}
use Rattle.csdf_run_trials.proofs.limits.core_tests.check_places.Given as goal

abbrev pub invariant-loop : goal.invariant-loop
invariant-loop l = l.place.board ≡ l.board.id
