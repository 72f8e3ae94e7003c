use Rattle.std.proofs.Common.{◌≡◌, ◌++◌, drop, map, string_bytes}
use Rattle.std.specs.List.{enumerate_from}
use Rattle.csdf_model.specs.Graph.{actor_view}
use Rattle.csdf_answers.specs.Drawing.{actor_lines}
use Rattle.csdf_answers.proofs.drawing.push_actors.Given as goal

abbrev pub invariant-loop-number : goal.invariant-loop-number
invariant-loop-number l =
    string_bytes l.text ++ actor_lines l.firings (enumerate_from l.number (map actor_view (drop l.number l.actors)))
    ≡ string_bytes l.fn.text ++ actor_lines l.firings (enumerate_from 0 (map actor_view l.actors))
