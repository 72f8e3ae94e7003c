use Rattle.csdf_floor.proofs.Rooms.{stay_in_step}
use Rattle.csdf_floor.proofs.laws.stay_in_step.Goals as goal

pub returns : goal.returns
returns c = stay_in_step
