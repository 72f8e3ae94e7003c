use Rattle.std.proofs.Common.{map, take}
use Rattle.csdf_disk.specs.Acts.{Asks}
use Rattle.csdf_run_files.specs.Running.{file_view, put_whole}
use Rattle.csdf_run_files.proofs.run.put_files.Given as goal

-- the files so far were put
abbrev pub invariant-loop-file : goal.invariant-loop-file
invariant-loop-file g l = Asks (g.D.Disk.acts l.fn.disk) (g.D.Disk.acts l.disk) (map put_whole (take l.file-index (map file_view l.files)))
