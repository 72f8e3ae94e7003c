use Rattle.std.proofs.Common.{List, [], ◌∷◌, option_map}
use Rattle.std.specs.Fs.{permissions_mode}
use Rattle.csdf_disk.specs.SystemCalls.{Create, Step, permits}
use Rattle.csdf_disk.proofs.MakeLemmas.{not_made}
use Rattle.csdf_disk.proofs.PutLemmas.{one_failed, steps_cut, steps_more, steps_same}
use Rattle.csdf_disk.proofs.making.make_part.Goals as goal

pub returns-in_err-file : goal.returns-in_err-file
returns-in_err-file g c =
    let created : List Step = Create c.args.part.now ∷ [] in
    let permitted = permits c.args.part.now (option_map permissions_mode c.args.permissions) in
    steps_cut created permitted _ _ _ _ (not_made c.from_residual.result _ c.from_residual.ensures.1)
    (one_failed (Create c.args.part.now) _ _ _ c.in_err-file.ensures.failed c.in_err-file.ensures.called)

pub returns-in_err-permit : goal.returns-in_err-permit
returns-in_err-permit g c =
    let created : List Step = Create c.args.part.now ∷ [] in
    let permitted = permits c.args.part.now (option_map permissions_mode c.args.permissions) in
    steps_more created permitted _ _ _ _ c.in_ok-file.ensures.called
    (steps_same permitted _ _ _ _ (not_made c.from_residual-in_err-permit.result _ c.from_residual-in_err-permit.ensures.1) c.in_err-permit.ensures)
