use Rattle.std.proofs.Common.{◌≡◌, ◌++◌, ◌==◌, map, drop}
use Rattle.csdf_model.specs.Graph.{channel_view, numbers_from, outputs_of}
use Rattle.csdf_model.proofs.ports.outputs_of.Given as goal

abbrev pub invariant-loop-number : goal.invariant-loop-number
invariant-loop-number l = l.outputs.items ++ numbers_from l.number (λ c. c.from == l.actor) (map channel_view (drop l.number l.channels))
    ≡ outputs_of (map channel_view l.channels) l.actor
