use Rattle.std.proofs.Common.{◌≡◌, ◌<◌, ◌≤◌, ◌-◌, ◌^◌, length, get_or, take, drop, map}
use Rattle.csdf_pool.specs.Chains.{linked_from}
use Rattle.csdf_pool.specs.Inside.{token_at}
use Rattle.csdf_pool.proofs.fill.copy_in_long_rows.Given as goal

abbrev pub invariant-loop-done : goal.invariant-loop-done
invariant-loop-done l = record {
  next_fits : l.next < 2 ^ 32;
  reached : l.done ≤ length l.initial.tokens;
  rest : linked_from l.links l.next (length l.initial.tokens - l.done) ≡ drop l.done (linked_from l.links l.first (length l.initial.tokens));
  last_is : 0 < l.done → l.last ≡ get_or (linked_from l.links l.first (length l.initial.tokens)) (l.done - 1) 0;
  read : take l.done l.tokens ≡ map (token_at l.table) (take l.done (linked_from l.links l.first (length l.initial.tokens)));
}

abbrev pub decreases-loop-done : goal.decreases-loop-done
decreases-loop-done l = length l.initial.tokens - l.done
