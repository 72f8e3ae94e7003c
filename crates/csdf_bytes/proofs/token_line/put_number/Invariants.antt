use Rattle.std.proofs.Common.{◌≡◌, ◌+◌, ◌≤◌, ◌++◌, length, drop}
use Rattle.std.specs.Fmt.{decimal}
use Rattle.csdf_bytes.proofs.token_line.put_number.Given as goal

abbrev pub invariant-loop-rest : goal.invariant-loop-rest
invariant-loop-rest l = record {
  before : l.start ≤ l.end;
  room : length (decimal l.rest) + l.end ≤ l.start + 10;
  so_far : decimal l.number ++ drop l.end l.fn.bytes ≡ decimal l.rest ++ drop l.start l.bytes;
}

abbrev pub decreases-loop-rest : goal.decreases-loop-rest
decreases-loop-rest l = l.rest
