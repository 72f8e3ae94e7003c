use Rattle.csdf_disk.proofs.MakeLemmas.{not_kept}
use Rattle.csdf_disk.proofs.making.keep_part.Goals as goal

pub returns-in-Err : goal.returns-in-Err
returns-in-Err g c = not_kept c.args.part.now c.args.path.now _ _ _ c.in-Err.why _ _ c.in-Err.ensures.failed c.rename.ensures c.remove_file.ensures
