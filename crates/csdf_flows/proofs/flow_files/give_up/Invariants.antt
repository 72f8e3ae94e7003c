use Rattle.std.proofs.Common.{map, take}
use Rattle.csdf_disk.specs.Acts.{Asks}
use Rattle.csdf_flows.specs.Flows.{flow_file_view, leave_of}
use Rattle.csdf_flows.proofs.flow_files.give_up.Given as goal

-- the files so far were given up
abbrev pub invariant-loop-k : goal.invariant-loop-k
invariant-loop-k g l = Asks (g.D.Disk.acts l.fn.disk) (g.D.Disk.acts l.disk) (map leave_of (take l.k (map flow_file_view l.files)))
