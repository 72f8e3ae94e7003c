use Rattle.std.proofs.Common.{◌≡◌, ◌++◌, drop, map, string_bytes}
use Rattle.std.specs.List.{enumerate_from}
use Rattle.csdf_model.specs.Graph.{actor_view}
use Rattle.csdf_stream.specs.Printed.{actor_names, clipped_lines}
use Rattle.csdf_stream.proofs.report.push_all_clipped.Given as goal

abbrev pub invariant-loop-place : goal.invariant-loop-place
invariant-loop-place l =
    string_bytes l.text ++ clipped_lines (actor_names (map actor_view l.actors)) l.counts (enumerate_from l.place (drop l.place l.sinks))
    ≡ string_bytes l.fn.text ++ clipped_lines (actor_names (map actor_view l.actors)) l.counts (enumerate_from 0 l.sinks)
