use Rattle.std.proofs.Common.{◌≡◌, ◌++◌, drop, map}
use Rattle.csdf_model.specs.Graph.{actor_view}
use Rattle.csdf_flows.specs.Flows.{flow_file_view, sinks_at}
use Rattle.csdf_flows.proofs.flow_files.sink_files.Given as goal

-- the files so far and those of the actors that are left are all
abbrev pub invariant-loop-actor : goal.invariant-loop-actor
invariant-loop-actor l =
    map flow_file_view l.files.items ++ sinks_at l.folder (map actor_view (drop l.actor-index l.actors)) ≡ sinks_at l.folder (map actor_view l.actors)
