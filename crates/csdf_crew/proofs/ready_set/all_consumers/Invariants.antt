use Rattle.std.proofs.Common.{◌≡◌, length}
use Rattle.csdf_crew.specs.Looking.{AreConsumers}
use Rattle.csdf_crew.proofs.ready_set.all_consumers.Given as goal

abbrev pub invariant-loop-actor : goal.invariant-loop-actor
invariant-loop-actor l = record {
  count : length l.masks.items ≡ l.actor;
  masks : AreConsumers l.graph.channels l.actor l.masks.items;
}
