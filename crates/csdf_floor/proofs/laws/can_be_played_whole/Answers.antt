use Rattle.csdf_floor.proofs.Continuing.{can_be_played_whole}
use Rattle.csdf_floor.proofs.laws.can_be_played_whole.Goals as goal

pub returns : goal.returns
returns c = can_be_played_whole
