use Rattle.std.proofs.Common.{◌≡◌, ◌-◌, ◌≤◌, length, take}
use Rattle.std.specs.Io.KnownBytes.{Appends}
use Rattle.csdf_bytes.proofs.outlet.write_bytes.Given as goal

abbrev pub invariant-loop-done : goal.invariant-loop-done
invariant-loop-done g l = record {
  within : l.done ≤ length l.bytes;
  so_far : Appends (g.O.Outlet.written l.fn.writer) (g.O.Outlet.written l.writer) (take l.done l.bytes);
  unmarked : g.O.Outlet.failed l.writer ≡ g.O.Outlet.failed l.fn.writer;
}

abbrev pub decreases-loop-done : goal.decreases-loop-done
decreases-loop-done g l = length l.bytes - l.done
