use Rattle.csdf_floor.proofs.Mosts.{stays_within_most}
use Rattle.csdf_floor.proofs.laws.stays_within_most.Goals as goal

pub returns : goal.returns
returns c = stays_within_most
