use Rattle.std.proofs.Common.{◌≡◌, ◌++◌, drop, map}
use Rattle.json.specs.Tree.{items_tokens}
use Rattle.csdf_model.specs.Graph.{actor_view}
use Rattle.csdf_answers.specs.Described.{actor_names}
use Rattle.csdf_answers.specs.Objects.{firing_items}
use Rattle.csdf_answers.proofs.object.put_firings.Given as goal

abbrev pub invariant-loop-actor : goal.invariant-loop-actor
invariant-loop-actor l =
    (l.writer.tokens ++ items_tokens (firing_items (actor_names (map actor_view l.actors)) (drop l.actor-index l.firings))
    ≡ l.fn.writer.tokens ++ items_tokens (firing_items (actor_names (map actor_view l.actors)) l.firings))
    × (l.writer.before ≡ l.fn.writer.before)
