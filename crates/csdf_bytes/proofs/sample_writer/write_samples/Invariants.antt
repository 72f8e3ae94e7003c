use Rattle.std.proofs.Common.{◌≡◌, ◌-◌, ◌≤◌, length, take}
use Rattle.std.specs.Io.KnownBytes.{Appends}
use Rattle.csdf_bytes.specs.Samples.{clipped_count, sample_bytes}
use Rattle.csdf_bytes.proofs.sample_writer.write_samples.Given as goal

abbrev pub invariant-loop-done : goal.invariant-loop-done
invariant-loop-done g l = record {
  within : l.done ≤ length l.tokens;
  so_far : Appends (g.O.Outlet.written l.fn.writer) (g.O.Outlet.written l.writer) (sample_bytes l.format (take l.done l.tokens));
  clipped : l.clipped ≡ clipped_count l.format (take l.done l.tokens);
  unmarked : g.O.Outlet.failed l.writer ≡ g.O.Outlet.failed l.fn.writer;
}

abbrev pub decreases-loop-done : goal.decreases-loop-done
decreases-loop-done g l = length l.tokens - l.done
