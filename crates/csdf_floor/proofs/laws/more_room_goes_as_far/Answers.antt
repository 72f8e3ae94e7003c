use Rattle.csdf_floor.proofs.Rooms.{goes_as_far}
use Rattle.csdf_floor.proofs.laws.more_room_goes_as_far.Goals as goal

pub returns : goal.returns
returns c = goes_as_far
