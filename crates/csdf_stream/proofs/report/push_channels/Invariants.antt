use Rattle.std.proofs.Common.{◌≡◌, ◌++◌, drop, map, string_bytes}
use Rattle.std.specs.List.{enumerate_from}
use Rattle.csdf_model.specs.Graph.{channel_view}
use Rattle.csdf_stream.specs.Printed.{channel_lines, names_of}
use Rattle.csdf_stream.proofs.report.push_channels.Given as goal

abbrev pub invariant-loop-number : goal.invariant-loop-number
invariant-loop-number l =
    string_bytes l.text ++ channel_lines (names_of (map channel_view l.channels)) l.totals (enumerate_from l.number (drop l.number l.reports))
    ≡ string_bytes l.fn.text ++ channel_lines (names_of (map channel_view l.channels)) l.totals (enumerate_from 0 l.reports)
