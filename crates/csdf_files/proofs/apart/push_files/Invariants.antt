use Rattle.std.proofs.Common.{◌≡◌, ◌++◌, drop, map}
use Rattle.csdf_model.specs.Graph.{actor_view}
use Rattle.csdf_files.specs.Places.{files_on, listed_view}
use Rattle.csdf_files.proofs.apart.push_files.Given as goal

-- the files so far and those of the actors that are left are all
abbrev pub invariant-loop-actor : goal.invariant-loop-actor
invariant-loop-actor l =
    map listed_view l.files.items ++ files_on l.side l.folder (map actor_view (drop l.actor-index l.actors))
    ≡ map listed_view l.fn.files.items ++ files_on l.side l.folder (map actor_view l.actors)
