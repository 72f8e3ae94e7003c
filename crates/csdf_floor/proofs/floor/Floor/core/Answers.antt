use Rattle.csdf_floor.proofs.Floors.{floor_is}
use Rattle.csdf_floor.proofs.floor.Floor.core.Goals as goal

pub returns-clause-floor : goal.returns-clause-floor
returns-clause-floor c = rw (← c.self.view_is) (floor_is c.self.inside.book.shown c.self.inside.book.reads c.core.ensures.book c.self.invariant)
