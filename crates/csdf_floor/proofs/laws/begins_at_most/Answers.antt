use Rattle.csdf_floor.proofs.Mosts.{begins_at_most}
use Rattle.csdf_floor.proofs.laws.begins_at_most.Goals as goal

pub returns : goal.returns
returns c = begins_at_most
