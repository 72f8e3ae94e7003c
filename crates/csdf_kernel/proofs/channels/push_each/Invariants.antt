use Rattle.std.proofs.Common.{◌≡◌, ◌++◌, take}
use Rattle.csdf_kernel.proofs.channels.push_each.Given as goal

abbrev pub invariant-loop-token : goal.invariant-loop-token
invariant-loop-token l =
    (l.outputs.items ≡ l.initial.outputs.items ++ take l.token-index l.tokens) × (l.outputs.capacity ≡ l.initial.outputs.capacity)
