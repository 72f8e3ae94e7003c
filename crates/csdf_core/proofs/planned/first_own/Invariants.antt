use Rattle.std.proofs.Common.{ℕ, ◌≢◌, ◌<◌, get_or, map}
use Rattle.csdf_core.specs.Plan.{from_at}
use Rattle.csdf_core.specs.PlanInside.{channel_in}
use Rattle.csdf_core.proofs.planned.first_own.Given as goal

-- the inputs so far come from others
abbrev pub invariant-loop-channel : goal.invariant-loop-channel
invariant-loop-channel l = (j : ℕ) → j < l.channel-index → from_at (map channel_in l.channels) (get_or l.inputs j 0) ≢ l.actor
