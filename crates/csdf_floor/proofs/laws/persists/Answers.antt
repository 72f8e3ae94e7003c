use Rattle.csdf_floor.proofs.Persistence.{persists}
use Rattle.csdf_floor.proofs.laws.persists.Goals as goal

pub returns : goal.returns
returns c = persists
