use Rattle.csdf_claims.proofs.EachPlace.{one_finished}
use Rattle.csdf_claims.proofs.laws.one_finished.Goals as goal

pub returns : goal.returns
returns c = one_finished
