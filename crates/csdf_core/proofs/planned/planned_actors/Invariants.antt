use Rattle.std.proofs.Common.{◌≡◌, length, map, take}
use Rattle.csdf_core.specs.declared.planned.PlannedActor.{PlannedActor}
use Rattle.csdf_core.specs.PlanInside.{channel_in, AreActors}
use Rattle.csdf_core.specs.Planned.{sources_of}
use Rattle.csdf_core.proofs.planned.planned_actors.Given as goal

-- the actors so far
abbrev pub invariant-loop-actor : goal.invariant-loop-actor
invariant-loop-actor l = record {
  count : length l.actors.items ≡ l.actor;
  actors : AreActors (map channel_in l.channels) l.actors.items;
  sources : map (λ (a : PlannedActor). a.is_source) l.actors.items ≡ take l.actor (sources_of l.graph);
}
