use Rattle.csdf_claims.proofs.EachPlace.{one_holds}
use Rattle.csdf_claims.proofs.laws.one_holds.Goals as goal

pub returns : goal.returns
returns c = one_holds
