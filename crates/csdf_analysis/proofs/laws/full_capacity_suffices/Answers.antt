use Rattle.csdf_analysis.proofs.RoomLemmas.{full_suffices}
use Rattle.csdf_analysis.proofs.laws.full_capacity_suffices.Goals as goal

pub returns : goal.returns
returns c = full_suffices
