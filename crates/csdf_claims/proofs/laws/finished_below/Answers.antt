use Rattle.csdf_claims.proofs.EachPlace.{finished_below}
use Rattle.csdf_claims.proofs.laws.finished_below.Goals as goal

pub returns : goal.returns
returns c = finished_below
