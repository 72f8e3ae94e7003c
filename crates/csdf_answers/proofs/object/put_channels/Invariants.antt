use Rattle.std.proofs.Common.{◌≡◌, ◌++◌, drop, map}
use Rattle.std.specs.List.{enumerate_from}
use Rattle.json.specs.Tree.{items_tokens}
use Rattle.csdf_model.specs.Graph.{channel_view}
use Rattle.csdf_answers.specs.Objects.{channel_items}
use Rattle.csdf_answers.specs.Printed.{names_of}
use Rattle.csdf_answers.proofs.object.put_channels.Given as goal

abbrev pub invariant-loop-number : goal.invariant-loop-number
invariant-loop-number l =
    (l.writer.tokens ++ items_tokens (channel_items l.capacities (enumerate_from l.number (names_of (map channel_view (drop l.number l.channels)))))
    ≡ l.fn.writer.tokens ++ items_tokens (channel_items l.capacities (enumerate_from 0 (names_of (map channel_view l.channels)))))
    × (l.writer.before ≡ l.fn.writer.before)
