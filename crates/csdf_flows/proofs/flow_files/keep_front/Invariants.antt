use Rattle.std.proofs.Common.{map, take}
use Rattle.csdf_disk.specs.Acts.{Asks}
use Rattle.csdf_flows.specs.Flows.{flow_file_view, keeps}
use Rattle.csdf_flows.proofs.flow_files.keep_front.Given as goal

-- the files so far were put in their places
abbrev pub invariant-loop-k : goal.invariant-loop-k
invariant-loop-k g l =
    Asks (g.D.Disk.acts l.fn.disk) (g.D.Disk.acts l.disk) (keeps (take l.k (map flow_file_view l.files)) (take l.k (map g.D.Sink.Outlet.written l.sinks)))
