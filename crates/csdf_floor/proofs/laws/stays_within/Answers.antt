use Rattle.csdf_floor.proofs.Ends.{stays_within}
use Rattle.csdf_floor.proofs.laws.stays_within.Goals as goal

pub returns : goal.returns
returns c = stays_within
