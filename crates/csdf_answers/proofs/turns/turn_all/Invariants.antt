use Rattle.std.proofs.Common.{drop, map, string_bytes}
use Rattle.csdf_model.specs.Graph.{channel_view}
use Rattle.csdf_answers.specs.Lines.{line_view}
use Rattle.csdf_answers.specs.Printed.{names_of}
use Rattle.csdf_answers.proofs.TurnLemmas.{GoesOn}
use Rattle.csdf_answers.proofs.turns.turn_all.Given as goal

abbrev pub invariant-loop-line : goal.invariant-loop-line
invariant-loop-line l =
    GoesOn (names_of (map channel_view l.channels)) l.fn.core l.core (map line_view l.lines)
    (map line_view (drop l.line-index l.lines)) (string_bytes l.text)
