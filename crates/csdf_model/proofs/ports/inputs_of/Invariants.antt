use Rattle.std.proofs.Common.{◌≡◌, ◌++◌, ◌==◌, map, drop}
use Rattle.csdf_model.specs.Graph.{channel_view, numbers_from, inputs_of}
use Rattle.csdf_model.proofs.ports.inputs_of.Given as goal

abbrev pub invariant-loop-number : goal.invariant-loop-number
invariant-loop-number l = l.inputs.items ++ numbers_from l.number (λ c. c.to == l.actor) (map channel_view (drop l.number l.channels))
    ≡ inputs_of (map channel_view l.channels) l.actor
