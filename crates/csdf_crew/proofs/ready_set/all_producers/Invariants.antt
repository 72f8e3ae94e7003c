use Rattle.std.proofs.Common.{◌≡◌, length}
use Rattle.csdf_crew.specs.Looking.{AreProducers}
use Rattle.csdf_crew.proofs.ready_set.all_producers.Given as goal

abbrev pub invariant-loop-actor : goal.invariant-loop-actor
invariant-loop-actor l = record {
  count : length l.masks.items ≡ l.actor;
  masks : AreProducers l.graph.channels l.actor l.masks.items;
}
