use Rattle.csdf_analysis.proofs.RoomyLemmas.{room_accepted}
use Rattle.csdf_analysis.proofs.laws.room_is_accepted.Goals as goal

pub returns : goal.returns
returns c = room_accepted
