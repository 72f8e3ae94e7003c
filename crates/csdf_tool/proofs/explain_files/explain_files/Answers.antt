use Rattle.std.proofs.Common.{◌≡◌, ◌∙◌, Ok, Err, true, false, ap, inl, sym}
use Rattle.std.specs.Prelude.{option_map}
use Rattle.csdf_answers.specs.declared.fault.DeviceName.TheVariants.{Input}
use Rattle.csdf_answers.specs.declared.fault.ToolFault.TheVariants.{Device}
use Rattle.csdf_disk.specs.Acts.{marks}
use Rattle.csdf_tool.proofs.ExplainingLemmas.{explains_files, explains_unread, is_unread, lacks_explanation, lacks_unread}
use Rattle.csdf_tool.proofs.explain_files.explain_files.Goals as goal

pub returns-in-Ok-clause-written : goal.returns-in-Ok-clause-written
returns-in-Ok-clause-written g c =
    explains_files c.explain_in.result c.args.graph.now (option_map (λ f. f.now) c.args.folder) (g.I.Intake.left c.args.reader.now) _ _ _ _ _ _ _
    c.in-Ok.ensures.named c.in-Ok.ensures.read (sym c.deref.ensures.value) c.explain_in.ensures.written

pub returns-in-Ok-clause-caused : goal.returns-in-Ok-clause-caused
returns-in-Ok-clause-caused g c =
    lacks_explanation c.explain_in.result c.args.graph.now (option_map (λ f. f.now) c.args.folder) (g.I.Intake.left c.args.reader.now) _ _ _ _ _ _
    c.in-Ok.ensures.named c.in-Ok.ensures.read (sym c.deref.ensures.value) c.explain_in.ensures.refused c.explain_in.ensures.failed

pub returns-in-Ok-clause-input : goal.returns-in-Ok-clause-input
returns-in-Ok-clause-input g c = λ is failed.
    let no : Ok c.in-Ok.bytes ≡ Err (Device Input) = (c.in-Ok.ensures.device is).1 failed in
    absurd (cc)

pub returns-in-Err-clause-written : goal.returns-in-Err-clause-written
returns-in-Err-clause-written g c =
    let left = g.I.Intake.left c.args.reader.now in
    let asked = g.D.Disk.acts c.args.disk.now in
    let mid = g.D.Disk.acts c.graph_bytes.new.disk in
    let failed = g.I.Intake.failed c.graph_bytes.new.reader in
    let unread = is_unread c.args.graph.now left asked mid failed c.in-Err.fault (sym c.is_of_file.ensures ∙ c.if-is_of_file.true) c.in-Err.ensures.missing in
    explains_unread c.args.graph.now left asked mid failed (g.D.Disk.acts c.explain_unread.new.disk) c.in-Err.fault unread c.explain_unread.result
    (option_map (λ f. f.now) c.args.folder) _ _ c.explain_unread.ensures.written

pub returns-in-Err-clause-caused : goal.returns-in-Err-clause-caused
returns-in-Err-clause-caused g c =
    let left = g.I.Intake.left c.args.reader.now in
    let asked = g.D.Disk.acts c.args.disk.now in
    let mid = g.D.Disk.acts c.graph_bytes.new.disk in
    let failed = g.I.Intake.failed c.graph_bytes.new.reader in
    let unread = is_unread c.args.graph.now left asked mid failed c.in-Err.fault (sym c.is_of_file.ensures ∙ c.if-is_of_file.true) c.in-Err.ensures.missing in
    lacks_unread c.args.graph.now left asked mid failed (g.D.Disk.acts c.explain_unread.new.disk) c.in-Err.fault unread c.explain_unread.result
    (option_map (λ f. f.now) c.args.folder) (marks failed (g.O.Outlet.failed c.explain_unread.new.out)) c.explain_unread.ensures.caused

pub returns-in-Err-clause-input : goal.returns-in-Err-clause-input
returns-in-Err-clause-input g c = λ is failed.
    let unread = is_unread c.args.graph.now (g.I.Intake.left c.args.reader.now) (g.D.Disk.acts c.args.disk.now) (g.D.Disk.acts c.graph_bytes.new.disk)
    (g.I.Intake.failed c.graph_bytes.new.reader) c.in-Err.fault (sym c.is_of_file.ensures ∙ c.if-is_of_file.true) c.in-Err.ensures.missing in
    absurd (let no : true ≡ false = sym is ∙ unread.named in cc)

pub returns-in-Err-2-clause-caused : goal.returns-in-Err-2-clause-caused
returns-in-Err-2-clause-caused g c = inl (c.in-Err.ensures.missing, sym c.is_of_file.ensures ∙ c.if-is_of_file.false)

pub returns-in-Err-2-clause-input : goal.returns-in-Err-2-clause-input
returns-in-Err-2-clause-input g c = λ is failed.
    let told = (c.in-Err.ensures.device is).1 failed in
    ap Err (let same : c.in-Err.fault ≡ Device Input = cc in same)
