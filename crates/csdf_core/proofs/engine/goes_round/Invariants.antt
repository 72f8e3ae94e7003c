use Rattle.std.proofs.Common.{◌<◌, ℕ}
use Rattle.csdf_core.specs.Engine.{FindsIn, FindsOut}
use Rattle.csdf_core.specs.Ports.{tokens_in}
use Rattle.csdf_core.proofs.engine.goes_round.Given as goal

abbrev pub invariant-loop-i : goal.invariant-loop-i
invariant-loop-i l = record {
  ins : (j : ℕ) → j < l.i → FindsIn l.plan.channels (tokens_in l.pool) l.actor l.k j l.channel;
  outs : (j : ℕ) → j < l.i → FindsOut l.plan.channels (tokens_in l.pool) l.actor l.k j l.channel;
}
