use Rattle.std.proofs.Common.{ℕ, ◌<◌, get_or}
use Rattle.csdf_core.specs.Ports.{tokens_in}
use Rattle.csdf_core.specs.Sides.{Finds}
use Rattle.csdf_core.proofs.engine.ends_find.Given as goal

abbrev pub invariant-loop-channel : goal.invariant-loop-channel
invariant-loop-channel l = (j : ℕ) → j < l.channel-index → Finds l.side l.plan.channels (tokens_in l.pool) l.actor l.k l.i (get_or l.ends j 0)
