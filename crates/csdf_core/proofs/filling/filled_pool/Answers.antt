use Rattle.std.proofs.lemmas.Grind.{common_steps}
use Rattle.std.specs.List.{range_with_len}
use Rattle.csdf_core.specs.Transfers.{filled_from}
use Rattle.std.proofs.Common.{replicate, [], ◌≤◌, ◌≡◌, ◌<◌, ℕ, ◌∙◌, ap, arith, List, length, map}
use Rattle.std.specs.Prelude.{ℤ}
use Rattle.std.proofs.lemmas.List.{length-map, length-replicate}
use Rattle.std.proofs.lemmas.List.FromFn.{length-range_with_len}
use Rattle.csdf_pool.specs.Pool.{held_tokens}
use Rattle.csdf_core.specs.Plan.{Channel}
use Rattle.csdf_core.specs.Ports.{tokens_in}
use Rattle.csdf_core.proofs.Fillings.{filled_more, filled_none, free_more, pool_is, cells_more, cells_all}
use Rattle.csdf_core.proofs.filling.filled_pool.Goals as goal

pub loop-channel-init : goal.loop-channel-init
loop-channel-init c =
    let cs : List Channel = c.args.plan.now.channels in
    let count : c.channels.result ≡ length cs = c.channels.ensures.count in
    let chains = c.in_ok-pool.ensures.chains in
    let xs : List (List ℤ) = map (λ (d : Channel). d.initial) cs in
    let free = ap length c.in_ok-pool.ensures.free ∙ length-range_with_len 0 c.cells.result in
    let cells = c.cells.ensures in
    record {
      front = ap (map held_tokens) chains ∙ filled_none (λ (d : Channel). d.initial) cs c.channels.result count;
      rest = omega (arith, free, cells);
      same = ap length chains ∙ length-replicate c.channels.result _ ∙ count;
      shared_out = record { size = c.in_ok-pool.ensures.size ∙ cells; partition = c.in_ok-pool.ensures.shared_out };
      cells = ap (filled_from 0 xs) (pool_is c.in_ok-pool.pool _ _ _ (c.in_ok-pool.ensures.size ∙ cells) (chains ∙ ap (λ (n : ℕ). replicate n []) count)
          (c.in_ok-pool.ensures.free ∙ ap (range_with_len 0) cells));
    }

pub loop-channel-preserved : goal.loop-channel-preserved
loop-channel-preserved c =
    let cs : List Channel = c.args.plan.now.channels in
    let xs : List (List ℤ) = map (λ (d : Channel). d.initial) cs in
    let i : ℕ = c.loop-channel.channel in
    let lt : i < length xs = (let t = c.loop-channel-test.true in let n = length-map cs (λ (d : Channel). d.initial) in
    let e = c.channels-channel-end.ensures.count in omega arith) in
    let old = c.loop-channel.invariant in
    let put = c.put_tokens.ensures in
    record {
      front = filled_more xs (tokens_in c.loop-channel.pool) (tokens_in c.put_tokens.new.pool) i c.initial.result.now lt old.front c.initial.ensures put.put;
      rest = free_more xs i (length c.loop-channel.pool.free) (length c.put_tokens.new.pool.free) c.args.plan.now.cells c.initial.result.now lt
          c.initial.ensures old.rest put.free;
      same = put.same ∙ old.same;
      shared_out = record { size = put.size ∙ old.shared_out.size; partition = put.partition };
      cells = cells_more xs i c.loop-channel.pool c.put_tokens.new.pool _ c.initial.result.now lt c.initial.ensures put.cells old.cells;
    }

pub returns-clause-cells : goal.returns-clause-cells
returns-clause-cells c =
    let cs : List Channel = c.args.plan.now.channels in
    let xs : List (List ℤ) = map (λ (d : Channel). d.initial) cs in
    let count = c.channels-channel-end.ensures.count in
    let past : length xs ≤ c.loop-channel.channel = (let f = c.loop-channel-test.false in let n = length-map cs (λ (d : Channel). d.initial) in omega arith) in
    cells_all xs c.loop-channel.channel c.loop-channel.pool _ past c.loop-channel.invariant.cells

pub overflow_cast-channels : goal.overflow_cast-channels
overflow_cast-channels c = grind (arith, common_steps)

pub overflow_cast-channel-end : goal.overflow_cast-channel-end
overflow_cast-channel-end c = grind (arith, common_steps)

pub loop-channel-smaller : goal.loop-channel-smaller
loop-channel-smaller c = grind (arith, common_steps)

pub returns-clause-tokens : goal.returns-clause-tokens
returns-clause-tokens c = grind (arith, common_steps)

pub returns-clause-shared_out : goal.returns-clause-shared_out
returns-clause-shared_out c = grind (arith, common_steps)

pub put_tokens-requires-clause-room : goal.put_tokens-requires-clause-room
put_tokens-requires-clause-room c = grind (arith, common_steps)
