use Rattle.std.proofs.Common.{◌≡◌, length, map}
use Rattle.csdf_floor.specs.Work.{feeds_in}
use Rattle.csdf_stream.proofs.WriteLemmas.{AreClippedTo, AreWrittenTo}
use Rattle.csdf_stream.proofs.writer.write_sinks.Given as goal

-- the sinks so far are written, and no other
abbrev pub invariant-loop-k : goal.invariant-loop-k
invariant-loop-k g l = record {
  devices : length l.devices ≡ length l.fn.devices;
  counts : length l.clipped ≡ length l.fn.clipped;
  written : AreWrittenTo l.format l.sinks (feeds_in l.lists) (map g.O.Outlet.written l.fn.devices) (map g.O.Outlet.written l.devices) l.k;
  clipped : AreClippedTo l.format l.sinks (feeds_in l.lists) l.fn.clipped l.clipped l.k;
}
