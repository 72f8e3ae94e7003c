use Rattle.std.proofs.Common.{◌≡◌, ◌++◌, drop, map}
use Rattle.std.specs.List.{enumerate_from}
use Rattle.json.specs.Tree.{items_tokens}
use Rattle.csdf_model.specs.Graph.{channel_view}
use Rattle.csdf_floor.specs.Report.{names_of}
use Rattle.csdf_told.specs.Reports.{channel_items}
use Rattle.csdf_told.proofs.report.put_channels.Given as goal

abbrev pub invariant-loop-number : goal.invariant-loop-number
invariant-loop-number l =
    (l.writer.tokens ++ items_tokens (channel_items (names_of (map channel_view l.channels)) (enumerate_from l.number (drop l.number l.reports)))
    ≡ l.fn.writer.tokens ++ items_tokens (channel_items (names_of (map channel_view l.channels)) (enumerate_from 0 l.reports)))
    × (l.writer.before ≡ l.fn.writer.before)
