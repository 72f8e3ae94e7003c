use Rattle.std.proofs.Common.{◌≡◌, ◌++◌, drop, map}
use Rattle.csdf_model.specs.Graph.{Actor, actor_view}
use Rattle.csdf_model.specs.Kernels.{is_source_kernel}
use Rattle.csdf_stream.specs.Ports.{numbers_from}
use Rattle.csdf_stream.proofs.ports.sources_of.Given as goal

-- those so far, and then those of the actors to come, are all
abbrev pub invariant-loop-number : goal.invariant-loop-number
invariant-loop-number l =
    l.sources.items ++ numbers_from (λ (a : Actor). is_source_kernel a.kernel) l.number (map actor_view (drop l.number l.actors))
    ≡ numbers_from (λ (a : Actor). is_source_kernel a.kernel) 0 (map actor_view l.actors)
