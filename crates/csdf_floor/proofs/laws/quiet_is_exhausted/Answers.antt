use Rattle.csdf_floor.proofs.Quiet.{quiet_is_exhausted}
use Rattle.csdf_floor.proofs.laws.quiet_is_exhausted.Goals as goal

pub returns : goal.returns
returns c = quiet_is_exhausted
