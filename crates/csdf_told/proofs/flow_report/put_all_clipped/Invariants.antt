use Rattle.std.proofs.Common.{◌≡◌, ◌++◌, drop, map}
use Rattle.std.specs.List.{enumerate_from}
use Rattle.json.specs.Tree.{items_tokens}
use Rattle.csdf_model.specs.Graph.{actor_view}
use Rattle.csdf_stream.specs.Printed.{actor_names}
use Rattle.csdf_told.specs.Reports.{clipped_items}
use Rattle.csdf_told.proofs.flow_report.put_all_clipped.Given as goal

abbrev pub invariant-loop-place : goal.invariant-loop-place
invariant-loop-place l =
    (l.writer.tokens ++ items_tokens (clipped_items (actor_names (map actor_view l.actors)) l.counts (enumerate_from l.place (drop l.place l.sinks)))
    ≡ l.fn.writer.tokens ++ items_tokens (clipped_items (actor_names (map actor_view l.actors)) l.counts (enumerate_from 0 l.sinks)))
    × (l.writer.before ≡ l.fn.writer.before)
