use Rattle.std.proofs.Common.{◌≡◌, ◌++◌, flat_map, take}
use Rattle.csdf_kernel.specs.Value.{places, filter_token}
use Rattle.csdf_kernel.proofs.channels.push_filtered.Given as goal

abbrev pub invariant-loop-count : goal.invariant-loop-count
invariant-loop-count l =
    (l.outputs.items ≡ l.initial.outputs.items ++ flat_map (places (filter_token l.filter.weights.now l.filter.taps l.filter.shift l.inputs))
    (take l.count-index l.counts))
    × (l.outputs.capacity ≡ l.initial.outputs.capacity)
