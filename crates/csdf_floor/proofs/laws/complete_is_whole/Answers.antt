use Rattle.csdf_floor.proofs.Lefts.{complete_is_whole}
use Rattle.csdf_floor.proofs.laws.complete_is_whole.Goals as goal

pub returns : goal.returns
returns c = complete_is_whole
