use Rattle.std.proofs.Common.{◌≡◌, ◌++◌, drop, map}
use Rattle.csdf_model.specs.Graph.{actor_view}
use Rattle.csdf_floor.specs.Work.{feeds_in}
use Rattle.csdf_run_files.specs.Running.{file_view, sink_files_from}
use Rattle.csdf_run_files.proofs.run.sink_files.Given as goal

abbrev pub invariant-loop-number : goal.invariant-loop-number
invariant-loop-number l =
    map file_view l.files.items ++ sink_files_from l.number l.folder (map actor_view (drop l.number l.actors)) (feeds_in l.lists)
    ≡ sink_files_from 0 l.folder (map actor_view l.actors) (feeds_in l.lists)
