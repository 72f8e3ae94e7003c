use Rattle.std.proofs.Common.{◌≡◌, length, map, take}
use Rattle.csdf_disk.specs.Acts.{Asks}
use Rattle.csdf_flows.specs.Flows.{flow_file_view, make_of}
use Rattle.csdf_flows.proofs.flow_files.make_all.Given as goal

-- the files so far were made
abbrev pub invariant-loop-file : goal.invariant-loop-file
invariant-loop-file g l = record {
  asked : Asks (g.D.Disk.acts l.fn.disk) (g.D.Disk.acts l.disk) (map make_of (take l.file-index (map flow_file_view l.files)));
  many : length l.sinks.items ≡ l.file-index;
}
