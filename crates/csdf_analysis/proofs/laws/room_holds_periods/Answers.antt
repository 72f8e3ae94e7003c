use Rattle.csdf_analysis.proofs.RoomyLemmas.{room_holds}
use Rattle.csdf_analysis.proofs.laws.room_holds_periods.Goals as goal

pub returns : goal.returns
returns c = room_holds
