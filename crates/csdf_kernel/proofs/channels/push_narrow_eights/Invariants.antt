use Rattle.std.proofs.Common.{◌≡◌, ◌*◌, ◌++◌}
use Rattle.csdf_kernel.specs.Value.{places, filter_token}
use Rattle.csdf_kernel.proofs.channels.push_narrow_eights.Given as goal

abbrev pub invariant-loop-eight : goal.invariant-loop-eight
invariant-loop-eight l =
    (l.outputs.items ≡ l.initial.outputs.items ++ places (filter_token l.filter.weights.now l.filter.taps l.filter.shift l.inputs) (l.eight * 8))
    × (l.outputs.capacity ≡ l.initial.outputs.capacity)
