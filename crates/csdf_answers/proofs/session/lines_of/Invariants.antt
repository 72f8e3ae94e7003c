use Rattle.std.proofs.Common.{◌≡◌, drop, map, string_bytes}
use Rattle.csdf_answers.specs.Lines.{line_view}
use Rattle.csdf_answers.specs.Session.{lines_from}
use Rattle.csdf_answers.proofs.SessionLemmas.{with_front}
use Rattle.csdf_answers.proofs.session.lines_of.Given as goal

abbrev pub invariant-loop-number : goal.invariant-loop-number
invariant-loop-number l =
    with_front (map line_view l.lines.items) (lines_from l.graph l.number (map string_bytes (drop l.number l.texts)))
    ≡ lines_from l.graph 0 (map string_bytes l.texts)
