-- A room that an order may have.
use denote.Struct.Props as logic
use Rattle.csdf_analysis.specs.declared.room.Room.{Room}
use Rattle.csdf_analysis.specs.declared.room.Room.TheVariants as room
use Rattle.csdf_analysis.specs.Room.{HasSomePeriod}

-- that it is for one period at least has one proof at most
pub HasSomePeriod-prop : (r : Room) → IsProp (HasSomePeriod r)
HasSomePeriod-prop room.Least = Prim.hlevel logic.props
HasSomePeriod-prop (room.Periods n) = Prim.hlevel logic.props
HasSomePeriod-prop room.Auto = Prim.hlevel logic.props
