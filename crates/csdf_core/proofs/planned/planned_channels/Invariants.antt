use Rattle.std.proofs.Common.{◌≡◌, map, take}
use Rattle.std.specs.List.{zip}
use Rattle.csdf_model.specs.Graph.{channel_view}
use Rattle.csdf_core.specs.PlanInside.{channel_in}
use Rattle.csdf_core.specs.Planned.{with_capacity}
use Rattle.csdf_core.proofs.planned.planned_channels.Given as goal

abbrev pub invariant-loop-c : goal.invariant-loop-c
invariant-loop-c l = map channel_in l.planned.items ≡ take l.c (map with_capacity (zip (map channel_view l.channels) l.capacities))
