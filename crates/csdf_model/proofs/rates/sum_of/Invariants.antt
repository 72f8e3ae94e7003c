use Rattle.std.proofs.Common.{◌≡◌, ◌≤◌, ◌*◌, take, sum}
use Rattle.csdf_model.proofs.rates.sum_of.Given as goal

abbrev pub invariant-loop-rate : goal.invariant-loop-rate
invariant-loop-rate l = record {
  so_far : l.sum ≡ sum (take l.rate-index l.rates);
  within : l.sum ≤ l.rate-index * 4294967295;
}
