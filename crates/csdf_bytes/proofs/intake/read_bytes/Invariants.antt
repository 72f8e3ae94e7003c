use Rattle.std.proofs.Common.{◌-◌, ◌≤◌, vec_len}
use Rattle.std.specs.Io.KnownBytes.{Consumes}
use Rattle.csdf_bytes.proofs.intake.read_bytes.Given as goal

abbrev pub invariant-loop-count : goal.invariant-loop-count
invariant-loop-count g l = record {
  short : vec_len l.bytes ≤ 16777216;
  so_far : Consumes (g.I.Intake.left l.fn.reader) (g.I.Intake.left l.reader) l.bytes.items;
}

abbrev pub decreases-loop-count : goal.decreases-loop-count
decreases-loop-count g l = 16777216 - vec_len l.bytes
