use Rattle.std.proofs.Common.{◌≡◌, length, drop}
use Rattle.csdf_pool.specs.Pool.{IsPartition}
use Rattle.csdf_core.specs.Passing.{changed, passed}
use Rattle.csdf_core.specs.Ports.{tokens_in}
use Rattle.csdf_core.proofs.block_moves.pass_outputs.Given as goal

-- what was done and what is left make the whole
abbrev pub invariant-loop-channel : goal.invariant-loop-channel
invariant-loop-channel l = record {
  same : length l.pool.chains ≡ length l.plan.channels;
  size : l.pool.size ≡ l.fn.pool.size;
  put : changed (passed l.plan.channels l.actor l.turn.firing l.n l.tokens) (drop l.channel-index l.outputs) (tokens_in l.pool)
      ≡ changed (passed l.plan.channels l.actor l.turn.firing l.n l.tokens) l.outputs (tokens_in l.fn.pool);
  partition : IsPartition l.pool;
}
