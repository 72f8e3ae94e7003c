use Rattle.csdf_claims.proofs.EachPlace.{finished_once}
use Rattle.csdf_claims.proofs.laws.finished_once.Goals as goal

pub returns : goal.returns
returns c = finished_once
