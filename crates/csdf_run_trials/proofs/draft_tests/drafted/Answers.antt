use Rattle.std.proofs.Common.{arith}
use Rattle.csdf_run_trials.proofs.draft_tests.drafted.Goals as goal

pub returns : goal.returns
returns c = λ some. c.evaluate.ensures.drafted _ (c.in_ok-draft.ensures.draft (omega (arith, some, c.evaluate.ensures.firings))).drafted
