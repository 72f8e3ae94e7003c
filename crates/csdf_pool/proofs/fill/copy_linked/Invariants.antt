use Rattle.std.proofs.Common.{◌≡◌, ◌<◌, ◌-◌, ◌^◌, length, get_or, take, drop, map}
use Rattle.csdf_pool.specs.Chains.{linked_from}
use Rattle.csdf_pool.specs.Inside.{token_at}
use Rattle.csdf_pool.proofs.fill.copy_linked.Given as goal

abbrev pub invariant-loop-token : goal.invariant-loop-token
invariant-loop-token l = record {
  next_fits : l.next < 2 ^ 32;
  rest : linked_from l.links l.next (length l.initial.tokens - l.token-index) ≡ drop l.token-index (linked_from l.links l.first (length l.initial.tokens));
  last_is : 0 < l.token-index → l.last ≡ get_or (linked_from l.links l.first (length l.initial.tokens)) (l.token-index - 1) 0;
  read : take l.token-index l.tokens ≡ map (token_at l.table) (take l.token-index (linked_from l.links l.first (length l.initial.tokens)));
}
