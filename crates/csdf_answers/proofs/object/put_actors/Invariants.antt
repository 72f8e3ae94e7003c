use Rattle.std.proofs.Common.{◌≡◌, ◌++◌, drop, map}
use Rattle.std.specs.List.{enumerate_from}
use Rattle.json.specs.Tree.{items_tokens}
use Rattle.csdf_model.specs.Graph.{actor_view}
use Rattle.csdf_answers.specs.Described.{actor_names}
use Rattle.csdf_answers.specs.Objects.{actor_items}
use Rattle.csdf_answers.proofs.object.put_actors.Given as goal

abbrev pub invariant-loop-number : goal.invariant-loop-number
invariant-loop-number l =
    let items_of = actor_items l.found.vector.r.items l.found.vector.q.items in
    (l.writer.tokens ++ items_tokens (items_of (enumerate_from l.number (actor_names (map actor_view (drop l.number l.actors)))))
    ≡ l.fn.writer.tokens ++ items_tokens (items_of (enumerate_from 0 (actor_names l.found.graph.actors))))
    × (l.writer.before ≡ l.fn.writer.before)
