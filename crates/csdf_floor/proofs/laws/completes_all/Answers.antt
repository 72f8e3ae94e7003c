use Rattle.csdf_floor.proofs.Periods.{completes_all}
use Rattle.csdf_floor.proofs.laws.completes_all.Goals as goal

pub returns : goal.returns
returns c = completes_all
