use Rattle.csdf_floor.proofs.Continuing.{leaves_as_found}
use Rattle.csdf_floor.proofs.laws.leaves_as_found.Goals as goal

pub returns : goal.returns
returns c = leaves_as_found
