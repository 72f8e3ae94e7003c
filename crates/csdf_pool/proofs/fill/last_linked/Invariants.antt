use Rattle.std.proofs.Common.{◌≡◌, ◌<◌, ◌-◌, ◌^◌, get_or, drop}
use Rattle.csdf_pool.specs.Chains.{linked_from}
use Rattle.csdf_pool.proofs.fill.last_linked.Given as goal

abbrev pub invariant-loop-cell : goal.invariant-loop-cell
invariant-loop-cell l = record {
  next_fits : l.next < 2 ^ 32;
  rest : linked_from l.links l.next (l.n - l._cell) ≡ drop l._cell (linked_from l.links l.first l.n);
  last_is : 0 < l._cell → l.last ≡ get_or (linked_from l.links l.first l.n) (l._cell - 1) 0;
}
