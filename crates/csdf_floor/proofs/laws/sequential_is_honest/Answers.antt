use Rattle.csdf_floor.proofs.Complete.{sequential_is_honest}
use Rattle.csdf_floor.proofs.laws.sequential_is_honest.Goals as goal

pub returns : goal.returns
returns c = sequential_is_honest
