use Rattle.std.proofs.Common.{◌≡◌, ◌++◌, drop, map, string_bytes}
use Rattle.std.specs.List.{enumerate_from}
use Rattle.csdf_model.specs.Graph.{actor_view}
use Rattle.csdf_answers.specs.Described.{actor_names, repetition_text}
use Rattle.csdf_answers.proofs.question.repetition_text.Given as goal

abbrev pub invariant-loop-number : goal.invariant-loop-number
invariant-loop-number l =
    let text_of = repetition_text l.found.vector.r.items l.found.vector.q.items in
    string_bytes l.text ++ text_of (enumerate_from l.number (actor_names (map actor_view (drop l.number l.actors))))
    ≡ text_of (enumerate_from 0 (actor_names l.found.graph.actors))
