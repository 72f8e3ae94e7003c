use Rattle.std.proofs.Common.{◌≡◌, ℕ, ◌<◌, ◌-◌, ◌^◌, length, get_or, take, drop, map}
use Rattle.csdf_pool.specs.Cells.{times}
use Rattle.csdf_pool.specs.Chains.{linked_from}
use Rattle.csdf_pool.specs.Inside.{token_at}
use Rattle.csdf_pool.proofs.fill.fill_linked.Given as goal

abbrev pub invariant-loop-token : goal.invariant-loop-token
invariant-loop-token l = record {
  next_fits : l.next < 2 ^ 32;
  rest : linked_from l.links l.next (length l.tokens - l.token-index) ≡ drop l.token-index (linked_from l.links l.first (length l.tokens));
  last_is : 0 < l.token-index → l.last ≡ get_or (linked_from l.links l.first (length l.tokens)) (l.token-index - 1) 0;
  written : map (token_at l.table) (take l.token-index (linked_from l.links l.first (length l.tokens))) ≡ take l.token-index l.tokens;
  others : (cell : ℕ) → times cell (take l.token-index (linked_from l.links l.first (length l.tokens))) ≡ 0
      → token_at l.table cell ≡ token_at l.initial.table cell;
}
