-- What the fields of a core show, and what they keep.
use Rattle.csdf_core.specs.declared.firing_core.Core.TheInside.{Inside}
use Rattle.csdf_core.specs.Phases.{AreInPhase}
use Rattle.csdf_core.specs.Ports.{tokens_in}
use Rattle.csdf_core.specs.State.{Present}
use Rattle.csdf_core.specs.Shows.{View}
use Rattle.csdf_core.specs.Sound.{IsSound}

-- what is present
abbrev pub now_in : Inside → Present
now_in c = record { counts = c.nexts.counts.items; stages = c.stages.items; opens = c.opens.items; tokens = tokens_in c.pool }

-- what contracts see
abbrev pub view_in : Inside → View
view_in c = record { plan = c.plan; now = now_in c; peaks = c.peaks.items; pool = c.pool }

-- what every core keeps
pub record IsKept (c : Inside) : Type 0 where
  pub sound : IsSound c.plan (now_in c) c.peaks.items c.sums.items c.started c.reserved c.pool
  pub phases : AreInPhase c.plan c.nexts.counts.items c.nexts.phases.items
