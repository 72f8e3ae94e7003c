use Rattle.csdf_floor.proofs.Ends.{ends_as_sequential}
use Rattle.csdf_floor.proofs.laws.ends_as_sequential.Goals as goal

pub returns : goal.returns
returns c = ends_as_sequential
