use Rattle.csdf_floor.proofs.Bounds.{finishes_all}
use Rattle.csdf_floor.proofs.laws.finishes_all.Goals as goal

pub returns : goal.returns
returns c = finishes_all
