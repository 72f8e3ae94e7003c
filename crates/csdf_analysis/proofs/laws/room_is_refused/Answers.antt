use Rattle.csdf_analysis.proofs.RoomyLemmas.{room_refused}
use Rattle.csdf_analysis.proofs.laws.room_is_refused.Goals as goal

pub returns : goal.returns
returns c = room_refused
