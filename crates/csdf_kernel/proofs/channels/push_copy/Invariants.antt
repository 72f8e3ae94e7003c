use Rattle.std.proofs.Common.{◌≡◌, ◌%◌, ◌<◌, ◌≤◌, ◌++◌, length}
use Rattle.csdf_kernel.specs.Value.{places, copy_token}
use Rattle.csdf_kernel.proofs.channels.push_copy.Given as goal

abbrev pub invariant-loop-copied : goal.invariant-loop-copied
invariant-loop-copied l = record {
  items : l.outputs.items ≡ l.initial.outputs.items ++ places (copy_token l.inputs) l._copied;
  capacity : l.outputs.capacity ≡ l.initial.outputs.capacity;
  at : 0 < length l.inputs → l.at ≡ l._copied % length l.inputs;
  within : l.at ≤ length l.inputs;
}
