use Rattle.std.proofs.Common.{◌≡◌, ◌<◌, ◌≤◌, ◌-◌, ◌^◌, get_or, drop}
use Rattle.csdf_pool.specs.Chains.{linked_from}
use Rattle.csdf_pool.proofs.fill.last_in_long_rows.Given as goal

abbrev pub invariant-loop-done : goal.invariant-loop-done
invariant-loop-done l = record {
  next_fits : l.next < 2 ^ 32;
  reached : l.done ≤ l.n;
  rest : linked_from l.links l.next (l.n - l.done) ≡ drop l.done (linked_from l.links l.first l.n);
  last_is : 0 < l.done → l.last ≡ get_or (linked_from l.links l.first l.n) (l.done - 1) 0;
}

abbrev pub decreases-loop-done : goal.decreases-loop-done
decreases-loop-done l = l.n - l.done
