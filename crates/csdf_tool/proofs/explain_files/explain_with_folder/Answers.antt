use Rattle.std.proofs.Common.{sym, subst}
use Rattle.csdf_tool.specs.Explaining.{AreNotesOf}
use Rattle.csdf_tool.proofs.ExplainingLemmas.{explained_with, unwritten_notes}
use Rattle.csdf_tool.proofs.explain_files.explain_with_folder.Goals as goal

pub returns-clause-written : goal.returns-clause-written
returns-clause-written g c =
    let told = c.in_ok-notes.ensures.told in
    let notes = subst (AreNotesOf c.args.folder.now c.args.bytes.now told.0) (sym c.as_str.ensures.value) told.1 in
    explained_with c.explain_with.result c.args.bytes.now _ _ _ _ c.args.folder.now told.0 _ notes told.2 c.explain_with.ensures.written

pub returns-clause-failed : goal.returns-clause-failed
returns-clause-failed g c = λ output.
    let told = c.in_ok-notes.ensures.told in
    let notes = subst (AreNotesOf c.args.folder.now c.args.bytes.now told.0) (sym c.as_str.ensures.value) told.1 in
    let failed = c.explain_with.ensures.failed output in
    (unwritten_notes c.args.bytes.now _ _ c.args.folder.now told.0 _ notes told.2 failed.0, failed.1)
