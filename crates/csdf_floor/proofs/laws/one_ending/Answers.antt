use Rattle.csdf_floor.proofs.Endings.{one_ending}
use Rattle.csdf_floor.proofs.laws.one_ending.Goals as goal

pub returns : goal.returns
returns c = one_ending
