use Rattle.csdf_floor.proofs.Bounds.{begins_no_more}
use Rattle.csdf_floor.proofs.laws.begins_no_more.Goals as goal

pub returns : goal.returns
returns c = begins_no_more
