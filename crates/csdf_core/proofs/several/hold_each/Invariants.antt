use Rattle.std.proofs.Common.{ℕ, ◌<◌, ◌≤◌, length, get_or}
use Rattle.csdf_core.specs.Blocks.{takes_at}
use Rattle.csdf_core.specs.Ports.{tokens_at, tokens_in}
use Rattle.csdf_core.proofs.several.hold_each.Given as goal

-- the inputs so far hold their amounts
abbrev pub invariant-loop-channel : goal.invariant-loop-channel
invariant-loop-channel l = (j : ℕ) → j < l.channel-index
    → takes_at l.plan.channels l.turn.firing l.n (get_or l.inputs j 0) ≤ length (tokens_at (tokens_in l.pool) (get_or l.inputs j 0))
