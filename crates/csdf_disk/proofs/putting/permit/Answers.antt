use Rattle.std.specs.Fs.{permissions_mode}
use Rattle.csdf_disk.specs.SystemCalls.{Permit}
use Rattle.csdf_disk.proofs.PutLemmas.{one_step, permit_given}
use Rattle.csdf_disk.proofs.putting.permit.Goals as goal

pub returns-in-Some : goal.returns-in-Some
returns-in-Some g c =
    permit_given c.args.part.now c.args.permissions c.in-Some.permissions _ _ c.ended.result c.in-Some.is
    (one_step (Permit c.args.part.now (permissions_mode c.in-Some.permissions)) _ _ c.set_permissions.result c.set_permissions.ensures c.ended.result
    c.ended.ensures.well c.ended.ensures.failed)
