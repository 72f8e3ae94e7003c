use Rattle.std.proofs.Common.{◌≡◌, ◌+◌, ◌-◌, ◌*◌, ◌<◌, ◌≤◌, ◌++◌, length, set, drop}
use Rattle.csdf_pool.specs.Pool.{IsPartition}
use Rattle.csdf_core.specs.Blocks.{gifts_of, gives_at}
use Rattle.csdf_core.specs.Engine.{gives_to}
use Rattle.csdf_core.specs.Passing.{IsShare}
use Rattle.csdf_core.specs.Phases.{IsInPhase}
use Rattle.csdf_core.specs.Ports.{tokens_in, tokens_at}
use Rattle.csdf_core.proofs.block_moves.put_shares.Given as goal

-- what was put and what is left make the whole
abbrev pub invariant-loop-firing : goal.invariant-loop-firing
invariant-loop-firing l = record {
  firing : l.next.firing ≡ l.fn.turn.firing + l._firing;
  in_phase : IsInPhase l.plan.channels l.actor l.next.firing l.next.phase;
  low : l.next.phase < 16;
  share : IsShare l.plan.channels l.actor l.channel l.next.firing l.share.all l.share.from l.share.own;
  small : l.share.all ≤ 8192;
  few : l.at ≤ 8192 * l._firing;
  all : l.at + gifts_of l.plan.channels l.actor l.next.firing (l.n - l._firing) ≡ length l.tokens;
  same : length l.pool.chains ≡ length l.plan.channels;
  size : l.pool.size ≡ l.fn.pool.size;
  room : gives_at l.plan.channels l.next.firing (l.n - l._firing) l.channel ≤ length l.pool.free + l.left_out;
  put : set (tokens_in l.pool) l.channel (tokens_at (tokens_in l.pool) l.channel
      ++ drop l.left_out (gives_to l.plan.channels l.actor l.channel l.next.firing (l.n - l._firing) (drop l.at l.tokens)))
      ≡ set (tokens_in l.fn.pool) l.channel (tokens_at (tokens_in l.fn.pool) l.channel
      ++ drop l.fn.few (gives_to l.plan.channels l.actor l.channel l.fn.turn.firing l.n l.tokens));
  partition : IsPartition l.pool;
}
