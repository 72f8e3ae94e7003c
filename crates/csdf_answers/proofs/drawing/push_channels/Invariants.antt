use Rattle.std.proofs.Common.{◌≡◌, ◌++◌, drop, map, string_bytes}
use Rattle.std.specs.List.{enumerate_from}
use Rattle.csdf_model.specs.Graph.{channel_view}
use Rattle.csdf_answers.specs.Drawing.{channel_lines}
use Rattle.csdf_answers.proofs.drawing.push_channels.Given as goal

abbrev pub invariant-loop-number : goal.invariant-loop-number
invariant-loop-number l =
    string_bytes l.text ++ channel_lines l.capacities (enumerate_from l.number (map channel_view (drop l.number l.channels)))
    ≡ string_bytes l.fn.text ++ channel_lines l.capacities (enumerate_from 0 (map channel_view l.channels))
