use Rattle.std.proofs.Common.{◌≡◌, length, drop}
use Rattle.csdf_pool.specs.Pool.{IsPartition}
use Rattle.csdf_core.specs.Ports.{take_at, tokens_in, EnoughOver}
use Rattle.csdf_core.specs.Transfers.{after_takes_over}
use Rattle.csdf_core.proofs.several.drop_inputs.Given as goal

-- what was done and what is left make the whole
abbrev pub invariant-loop-channel : goal.invariant-loop-channel
invariant-loop-channel l = record {
  same : length l.pool.chains ≡ length l.plan.channels;
  enough : EnoughOver (take_at l.plan.channels l.turn.firing) (drop l.channel-index l.inputs) (tokens_in l.pool);
  cells : after_takes_over (take_at l.plan.channels l.turn.firing) (drop l.channel-index l.inputs) l.pool ≡ after_takes_over
      (take_at l.plan.channels l.turn.firing) l.inputs l.fn.pool;
  partition : IsPartition l.pool;
}
