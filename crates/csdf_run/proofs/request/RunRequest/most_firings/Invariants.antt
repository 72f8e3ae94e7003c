use Rattle.std.proofs.Common.{◌≡◌, ◌≤◌, ◌*◌, sum, take}
use Rattle.csdf_run.proofs.request.RunRequest.most_firings.Given as goal

abbrev pub invariant-loop-count : goal.invariant-loop-count
invariant-loop-count l = record {
  so_far : l.all ≡ sum (take l.count-index l.count-items);
  within : l.all ≤ l.count-index * 4294967295;
}
