use Rattle.std.proofs.Common.{◌≡◌, length}
use Rattle.csdf_floor.proofs.blank.no_reads.Given as goal

abbrev pub invariant-loop : goal.invariant-loop
invariant-loop l = length l.reads.items ≡ l.counter
