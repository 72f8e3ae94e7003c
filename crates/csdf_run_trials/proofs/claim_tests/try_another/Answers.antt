use Rattle.csdf_claims.proofs.Keeps.{keeps_trans}
use Rattle.csdf_run_trials.proofs.claim_tests.try_another.Goals as goal

pub returns-clause-keeps : goal.returns-clause-keeps
returns-clause-keeps c =
    keeps_trans c.args.place.now.view c.try_claim.new.place.view c.split.new.place.view c.try_claim.ensures.keeps c.split.ensures.keeps
