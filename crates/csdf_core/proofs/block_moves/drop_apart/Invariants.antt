use Rattle.std.proofs.Common.{◌≡◌, length, drop}
use Rattle.csdf_pool.specs.Pool.{IsPartition}
use Rattle.csdf_core.specs.Passing.{takes_apart}
use Rattle.csdf_core.specs.Ports.{tokens_in, takes_over, EnoughOver}
use Rattle.csdf_core.proofs.block_moves.drop_apart.Given as goal

-- what was done and what is left make the whole
abbrev pub invariant-loop-channel : goal.invariant-loop-channel
invariant-loop-channel l = record {
  same : length l.pool.chains ≡ length l.plan.channels;
  size : l.pool.size ≡ l.fn.pool.size;
  enough : EnoughOver (takes_apart l.plan.channels l.actor l.k l.n) (drop l.channel-index l.inputs) (tokens_in l.pool);
  left : takes_over (takes_apart l.plan.channels l.actor l.k l.n) (drop l.channel-index l.inputs) (tokens_in l.pool)
      ≡ takes_over (takes_apart l.plan.channels l.actor l.k l.n) l.inputs (tokens_in l.fn.pool);
  partition : IsPartition l.pool;
}
