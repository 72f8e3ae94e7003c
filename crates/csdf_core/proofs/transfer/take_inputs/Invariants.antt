use Rattle.std.proofs.Common.{◌≡◌, ◌+◌, ◌≤◌, ◌++◌, length, take, drop}
use Rattle.std.specs.Prelude.{sum_by}
use Rattle.csdf_pool.specs.Pool.{IsPartition}
use Rattle.csdf_core.specs.Ports.{take_at, tokens_in, takes_over, taken_over, EnoughOver}
use Rattle.csdf_core.specs.Transfers.{after_takes_over}
use Rattle.csdf_core.proofs.transfer.take_inputs.Given as goal

-- what was done and what is left make the whole
abbrev pub invariant-loop-channel : goal.invariant-loop-channel
invariant-loop-channel l = record {
  same : length l.pool.chains ≡ length l.plan.channels;
  enough : EnoughOver (take_at l.plan.channels l.turn.firing) (drop l.channel-index l.inputs) (tokens_in l.pool);
  count : l.at + sum_by (take_at l.plan.channels l.turn.firing) (drop l.channel-index l.inputs) ≡ sum_by (take_at l.plan.channels l.turn.firing) l.inputs;
  whole : sum_by (take_at l.plan.channels l.turn.firing) l.inputs ≤ length l.into;
  answer : take l.at l.into ++ taken_over (take_at l.plan.channels l.turn.firing) (drop l.channel-index l.inputs) (tokens_in l.pool) ≡ taken_over
      (take_at l.plan.channels l.turn.firing) l.inputs (tokens_in l.fn.pool);
  rest : drop l.at l.into ≡ drop l.at l.fn.into;
  left : takes_over (take_at l.plan.channels l.turn.firing) (drop l.channel-index l.inputs) (tokens_in l.pool) ≡ takes_over
      (take_at l.plan.channels l.turn.firing) l.inputs (tokens_in l.fn.pool);
  cells : after_takes_over (take_at l.plan.channels l.turn.firing) (drop l.channel-index l.inputs) l.pool ≡ after_takes_over
      (take_at l.plan.channels l.turn.firing) l.inputs l.fn.pool;
  partition : IsPartition l.pool;
  size : l.pool.size ≡ l.fn.pool.size;
}
