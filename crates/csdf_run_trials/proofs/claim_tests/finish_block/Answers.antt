use Rattle.std.proofs.Common.{◌≡◌, sym, ◌∙◌, arith}
use Rattle.csdf_claims.proofs.Moves.{head_of}
use Rattle.csdf_run_trials.proofs.claim_tests.finish_block.Goals as goal

pub done_many-requires-clause-fits : goal.done_many-requires-clause-fits
done_many-requires-clause-fits r c k several has = let first : k ≡ 0 = head_of (sym has ∙ c.win.ensures.holds) in omega arith
