use Rattle.csdf_floor.proofs.Counted.{stays_counted}
use Rattle.csdf_floor.proofs.laws.stays_counted.Goals as goal

pub returns : goal.returns
returns c = stays_counted
