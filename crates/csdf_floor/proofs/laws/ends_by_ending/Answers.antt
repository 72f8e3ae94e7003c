use Rattle.csdf_floor.proofs.Endings.{ends_by_ending}
use Rattle.csdf_floor.proofs.laws.ends_by_ending.Goals as goal

pub returns : goal.returns
returns c = ends_by_ending
