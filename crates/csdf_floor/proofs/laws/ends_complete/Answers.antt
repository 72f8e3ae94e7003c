use Rattle.csdf_floor.proofs.Complete.{ends_complete}
use Rattle.csdf_floor.proofs.laws.ends_complete.Goals as goal

pub returns : goal.returns
returns c = ends_complete
