use Rattle.std.proofs.Common.{◌≡◌, ℕ, ◌<◌, ◌≤◌, ◌-◌, ◌^◌, length, get_or, take, drop, map}
use Rattle.csdf_pool.specs.Cells.{times}
use Rattle.csdf_pool.specs.Chains.{linked_from}
use Rattle.csdf_pool.specs.Inside.{token_at}
use Rattle.csdf_pool.proofs.fill.fill_in_long_rows.Given as goal

abbrev pub invariant-loop-done : goal.invariant-loop-done
invariant-loop-done l = record {
  next_fits : l.next < 2 ^ 32;
  reached : l.done ≤ length l.tokens;
  rest : linked_from l.links l.next (length l.tokens - l.done) ≡ drop l.done (linked_from l.links l.first (length l.tokens));
  last_is : 0 < l.done → l.last ≡ get_or (linked_from l.links l.first (length l.tokens)) (l.done - 1) 0;
  written : map (token_at l.table) (take l.done (linked_from l.links l.first (length l.tokens))) ≡ take l.done l.tokens;
  others : (cell : ℕ) → times cell (take l.done (linked_from l.links l.first (length l.tokens))) ≡ 0
      → token_at l.table cell ≡ token_at l.initial.table cell;
}

abbrev pub decreases-loop-done : goal.decreases-loop-done
decreases-loop-done l = length l.tokens - l.done
