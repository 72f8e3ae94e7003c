use Rattle.std.proofs.Common.{drop, ◌≡◌, ◌+◌, take, map, length}
use Rattle.std.specs.Prelude.{sum_by}
use Rattle.csdf_core.specs.Plan.{Channel}
use Rattle.csdf_core.specs.Ports.{tokens_in}
use Rattle.csdf_core.specs.Shows.{AreSharedOut}
use Rattle.csdf_core.specs.Transfers.{filled_from, opening_pool}
use Rattle.csdf_core.proofs.Fillings.{filled}
use Rattle.csdf_core.proofs.filling.filled_pool.Given as goal

abbrev pub invariant-loop-channel : goal.invariant-loop-channel
invariant-loop-channel l = record {
  front : tokens_in l.pool ≡ filled l.channel (map (λ (c : Channel). c.initial) l.plan.channels);
  rest : length l.pool.free + sum_by length (take l.channel (map (λ (c : Channel). c.initial) l.plan.channels)) ≡ l.plan.cells;
  same : length l.pool.chains ≡ length l.plan.channels;
  shared_out : AreSharedOut l.plan l.pool;
  cells : filled_from l.channel (drop l.channel (map (λ (c : Channel). c.initial) l.plan.channels)) l.pool ≡ opening_pool l.plan;
}
