use Rattle.csdf_analysis.proofs.ContinuedLemmas.{continued_accepted}
use Rattle.csdf_analysis.proofs.laws.continued_is_accepted.Goals as goal

pub returns : goal.returns
returns c = continued_accepted
