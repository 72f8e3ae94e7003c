use Rattle.std.proofs.Common.{◌≡◌, ◌++◌}
use Rattle.csdf_kernel.specs.Value.{places, filter_token}
use Rattle.csdf_kernel.proofs.channels.push_narrow.Given as goal

abbrev pub invariant-loop-place : goal.invariant-loop-place
invariant-loop-place l =
    (l.outputs.items ≡ l.fn.outputs.items ++ places (filter_token l.filter.weights.now l.filter.taps l.filter.shift l.inputs) l.place)
    × (l.outputs.capacity ≡ l.fn.outputs.capacity)
