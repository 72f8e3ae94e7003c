use Rattle.csdf_floor.proofs.Counted.{ends_counted}
use Rattle.csdf_floor.proofs.laws.ends_counted.Goals as goal

pub returns : goal.returns
returns c = ends_counted
