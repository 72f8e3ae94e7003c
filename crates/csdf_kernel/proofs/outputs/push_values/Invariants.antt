use Rattle.std.proofs.Common.{◌≡◌, ◌≤◌, ◌+◌, ◌-◌, ◌*◌, ◌++◌, length, drop, sum}
use Rattle.csdf_kernel.specs.Value.{values_of}
use Rattle.csdf_kernel.proofs.outputs.push_values.Given as goal

-- what is there and what is left make the whole, and both the inputs and the room are enough for what is left
abbrev pub invariant-loop-firing : goal.invariant-loop-firing
invariant-loop-firing l = record {
  values : l.outputs.items ++ values_of l.kernel l.counts l.need (l.firings - l._firing) (drop l.at l.inputs)
      ≡ l.initial.outputs.items ++ values_of l.kernel l.counts l.need l.firings l.inputs;
  inputs : l.at + (l.firings - l._firing) * l.need ≤ length l.inputs;
  room : length l.outputs.items + (l.firings - l._firing) * sum l.counts ≤ l.outputs.capacity;
}
