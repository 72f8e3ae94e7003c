use Rattle.csdf_floor.proofs.Unique.{is_only}
use Rattle.csdf_floor.proofs.laws.is_only.Goals as goal

pub returns : goal.returns
returns c = is_only
