use Rattle.std.proofs.Common.{◌≡◌, ◌<◌, length, get_or, map, ap, sym, ◌∙◌, arith}
use Rattle.std.proofs.lemmas.List.{get_or-map, length-map}
use Rattle.csdf_run_files.specs.Running.{file_view}
use Rattle.csdf_answers.proofs.ToldLemmas.{if_err_fault}
use Rattle.csdf_run_files.proofs.RunLemmas.{files_cut, files_next}
use Rattle.csdf_run_files.proofs.run.put_files.Goals as goal

pub loop-file-preserved : goal.loop-file-preserved
loop-file-preserved g c =
    let files = c.args.files.now in
    let i = c.loop-file.file-index in
    let d = c.file-item.result in
    let there : i < length (map file_view files) = omega (arith, c.loop-file-test.true, length-map files file_view) in
    let at : get_or (map file_view files) i (file_view d) ≡ file_view d =
    get_or-map file_view files i d (file_view d) c.loop-file-test.true ∙ ap file_view (sym c.file-item.is) in
    files_next _ _ _ (map file_view files) i (file_view d) there at c.loop-file.invariant c.in_ok-put_file.ensures.put

pub returns-in_err-put_file-clause-cut : goal.returns-in_err-put_file-clause-cut
returns-in_err-put_file-clause-cut g c =
    let files = c.args.files.now in
    let i = c.loop-file.file-index in
    let d = c.file-item.result in
    let fault = c.in_err-put_file.field-0.0 in
    let there : i < length (map file_view files) = omega (arith, c.loop-file-test.true, length-map files file_view) in
    let at : get_or (map file_view files) i (file_view d) ≡ file_view d =
    get_or-map file_view files i d (file_view d) c.loop-file-test.true ∙ ap file_view (sym c.file-item.is) in
    if_err_fault _ fault _ c.from_residual.ensures.1
    (files_cut _ _ _ (map file_view files) i (file_view d) fault there at c.loop-file.invariant c.in_err-put_file.ensures.unput)
