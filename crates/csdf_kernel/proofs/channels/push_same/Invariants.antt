use Rattle.std.proofs.Common.{◌≡◌, ◌++◌, replicate}
use Rattle.csdf_kernel.proofs.channels.push_same.Given as goal

abbrev pub invariant-loop-place : goal.invariant-loop-place
invariant-loop-place l =
    (l.outputs.items ≡ l.initial.outputs.items ++ replicate l._place l.same) × (l.outputs.capacity ≡ l.initial.outputs.capacity)
