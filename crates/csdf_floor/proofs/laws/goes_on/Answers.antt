use Rattle.csdf_floor.proofs.Journals.{goes_on}
use Rattle.csdf_floor.proofs.laws.goes_on.Goals as goal

pub returns : goal.returns
returns c = goes_on
