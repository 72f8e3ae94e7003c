use Rattle.std.proofs.Common.{◌≡◌, ◌++◌, drop, map, string_bytes}
use Rattle.std.specs.List.{enumerate_from}
use Rattle.csdf_model.specs.Graph.{channel_view}
use Rattle.csdf_answers.specs.Printed.{names_of}
use Rattle.csdf_answers.specs.Described.{capacity_lines}
use Rattle.csdf_answers.proofs.question.push_capacities.Given as goal

abbrev pub invariant-loop-number : goal.invariant-loop-number
invariant-loop-number l =
    string_bytes l.text ++ capacity_lines l.capacities (enumerate_from l.number (names_of (map channel_view (drop l.number l.channels))))
    ≡ string_bytes l.fn.text ++ capacity_lines l.capacities (enumerate_from 0 (names_of (map channel_view l.channels)))
