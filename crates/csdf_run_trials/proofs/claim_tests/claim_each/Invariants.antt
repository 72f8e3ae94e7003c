use Rattle.std.proofs.Common.{◌≡◌}
use Rattle.csdf_run_trials.proofs.claim_tests.claim_each.Given as goal

abbrev pub invariant-loop-firing : goal.invariant-loop-firing
invariant-loop-firing l = l.place.board ≡ l.initial.place.board
