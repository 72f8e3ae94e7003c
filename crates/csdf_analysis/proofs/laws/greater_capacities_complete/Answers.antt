use Rattle.csdf_analysis.proofs.RoomLemmas.{greater_complete}
use Rattle.csdf_analysis.proofs.laws.greater_capacities_complete.Goals as goal

pub returns : goal.returns
returns c = greater_complete
