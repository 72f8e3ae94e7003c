use Rattle.std.proofs.Common.{◌≡◌, ◌++◌}
use Rattle.csdf_kernel.specs.Value.{places, filter_token}
use Rattle.csdf_kernel.proofs.channels.push_narrow_whole.Given as goal

abbrev pub invariant-loop-next : goal.invariant-loop-next
invariant-loop-next l =
    (l.outputs.items ≡ l.fn.outputs.items ++ places (filter_token l.filter.weights.now l.filter.taps l.filter.shift l.inputs) l.next)
    × (l.outputs.capacity ≡ l.fn.outputs.capacity)
