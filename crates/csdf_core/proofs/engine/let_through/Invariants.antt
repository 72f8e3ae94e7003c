use Rattle.std.proofs.Common.{ℕ, ◌<◌, ◌≤◌, get_or}
use Rattle.csdf_core.specs.Ports.{tokens_in}
use Rattle.csdf_core.specs.Sides.{LetsThrough}
use Rattle.csdf_core.proofs.engine.let_through.Given as goal

abbrev pub invariant-loop-channel : goal.invariant-loop-channel
invariant-loop-channel l = (l.cycles ≤ l.most)
    × ((j : ℕ) → j < l.channel-index → LetsThrough l.side l.plan.channels (tokens_in l.pool) l.actor l.k l.phases l.cycles (get_or l.ends j 0))
