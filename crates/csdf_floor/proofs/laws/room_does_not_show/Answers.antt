use Rattle.csdf_floor.proofs.Rooms.{room_does_not_show}
use Rattle.csdf_floor.proofs.laws.room_does_not_show.Goals as goal

pub returns : goal.returns
returns c = room_does_not_show
