use Rattle.std.proofs.Common.{◌≡◌, ◌++◌, drop, map, string_bytes}
use Rattle.std.specs.List.{enumerate_from}
use Rattle.csdf_model.specs.Graph.{channel_view}
use Rattle.csdf_floor.specs.Report.{names_of, report_lines}
use Rattle.csdf_floor.proofs.printed.push_lines.Given as goal

abbrev pub invariant-loop-number : goal.invariant-loop-number
invariant-loop-number l =
    string_bytes l.text ++ report_lines (names_of (map channel_view l.channels)) (enumerate_from l.number (drop l.number l.reports))
    ≡ string_bytes l.fn.text ++ report_lines (names_of (map channel_view l.channels)) (enumerate_from 0 l.reports)
