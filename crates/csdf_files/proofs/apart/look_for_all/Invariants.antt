use Rattle.std.proofs.Common.{map}
use Rattle.csdf_files.specs.Places.{listed_view}
use Rattle.csdf_files.proofs.ApartLemmas.{AreApartTo}
use Rattle.csdf_files.proofs.apart.look_for_all.Given as goal

-- the files so far were looked for, and none is in use
abbrev pub invariant-loop-file : goal.invariant-loop-file
invariant-loop-file g l = AreApartTo (g.D.Disk.acts l.fn.disk) (g.D.Disk.acts l.disk) (map listed_view l.files) l.file-index l.places.items
