use Rattle.csdf_floor.proofs.Agreement.{agree}
use Rattle.csdf_floor.proofs.laws.agree.Goals as goal

pub returns : goal.returns
returns c = agree
