use Rattle.std.proofs.Common.{◌≡◌, ◌+◌, ◌≤◌, drop, map}
use Rattle.csdf_model.specs.Graph.{actor_view}
use Rattle.csdf_run.specs.Texts.{source_count}
use Rattle.csdf_run.proofs.texts.source_count.Given as goal

abbrev pub invariant-loop-actor : goal.invariant-loop-actor
invariant-loop-actor l =
    (l.count + source_count (map actor_view (drop l.actor-index l.actors)) ≡ source_count (map actor_view l.actors))
    × (l.count ≤ l.actor-index)
