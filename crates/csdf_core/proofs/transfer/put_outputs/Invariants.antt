use Rattle.std.proofs.Common.{◌≡◌, ◌+◌, ◌≤◌, length, drop}
use Rattle.std.specs.Prelude.{sum_by}
use Rattle.csdf_pool.specs.Pool.{IsPartition}
use Rattle.csdf_core.specs.Ports.{give_at, tokens_in, puts_over}
use Rattle.csdf_core.specs.Transfers.{after_puts_over}
use Rattle.csdf_core.proofs.transfer.put_outputs.Given as goal

-- what was done and what is left make the whole
abbrev pub invariant-loop-channel : goal.invariant-loop-channel
invariant-loop-channel l = record {
  same : length l.pool.chains ≡ length l.plan.channels;
  all : l.at + sum_by (give_at l.plan.channels l.turn.firing) (drop l.channel-index l.outputs) ≡ length l.tokens;
  room : length l.tokens ≤ l.at + length l.pool.free;
  put : puts_over (give_at l.plan.channels l.turn.firing) (drop l.channel-index l.outputs) (tokens_in l.pool) (drop l.at l.tokens) ≡ puts_over
      (give_at l.plan.channels l.turn.firing) l.outputs (tokens_in l.fn.pool) l.tokens;
  cells : after_puts_over (give_at l.plan.channels l.turn.firing) (drop l.channel-index l.outputs) l.pool (drop l.at l.tokens) ≡ after_puts_over
      (give_at l.plan.channels l.turn.firing) l.outputs l.fn.pool l.tokens;
  partition : IsPartition l.pool;
  size : l.pool.size ≡ l.fn.pool.size;
}
