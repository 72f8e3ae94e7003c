use Rattle.std.proofs.Common.{ap}
use Rattle.csdf_disk.specs.SystemCalls.{Rename, Write, step_of}
use Rattle.csdf_disk.specs.Contents.{content_text}
use Rattle.csdf_disk.proofs.PutLemmas.{one_step, step_as}
use Rattle.csdf_disk.proofs.putting.advance.Goals as goal

pub returns-in-Write : goal.returns-in-Write
returns-in-Write g c =
    step_as (step_of c.args.stage) (Write c.in-Write.part.now (content_text c.in-Write.content)) _ _ c.ended.result (ap step_of c.in-Write.is)
    (one_step (Write c.in-Write.part.now (content_text c.in-Write.content)) _ _ c.write.result c.write.ensures c.ended.result c.ended.ensures.well c.ended.ensures.failed)

pub returns-in-Rename : goal.returns-in-Rename
returns-in-Rename g c =
    step_as (step_of c.args.stage) (Rename c.in-Rename.part.now c.in-Rename.path.now) _ _ c.ended-in-Rename.result (ap step_of c.in-Rename.is)
    (one_step (Rename c.in-Rename.part.now c.in-Rename.path.now) _ _ c.rename.result c.rename.ensures c.ended-in-Rename.result c.ended-in-Rename.ensures.well
    c.ended-in-Rename.ensures.failed)
