use Rattle.std.proofs.Common.{◌≡◌, refl, sym, true, false, ◌∙◌}
use Rattle.csdf_files.proofs.InputLemmas.{file_missing, file_named, file_read, input_missing, input_named, input_read}
use Rattle.csdf_files.proofs.DiskLemmas.{asks_none, on_err, only_none}
use Rattle.csdf_files.proofs.files.graph_bytes.Goals as goal

pub returns-then-eq-clause-missing : goal.returns-then-eq-clause-missing
returns-then-eq-clause-missing g c =
    input_missing c.args.word.now (g.I.Intake.left c.args.reader.now) _ _ _ (sym c.eq.ensures ∙ c.if-eq.true) (asks_none _) c.input_bytes.result c.input_bytes.ensures.missing

pub returns-else-eq-clause-missing : goal.returns-else-eq-clause-missing
returns-else-eq-clause-missing g c =
    file_missing c.args.word.now (g.I.Intake.left c.args.reader.now) _ _ _ (sym c.eq.ensures ∙ c.if-eq.false) c.file_bytes.result c.file_bytes.ensures.missing

pub returns-then-eq-clause-read : goal.returns-then-eq-clause-read
returns-then-eq-clause-read g c =
    input_read c.args.word.now (g.I.Intake.left c.args.reader.now) _ _ true (sym c.eq.ensures ∙ c.if-eq.true) (asks_none _) c.input_bytes.result

pub returns-then-eq-clause-unread : goal.returns-then-eq-clause-unread
returns-then-eq-clause-unread g c = on_err c.input_bytes.result _ (only_none _)

pub returns-then-eq-clause-named : goal.returns-then-eq-clause-named
returns-then-eq-clause-named g c =
    input_named c.args.word.now (g.I.Intake.left c.args.reader.now) (g.D.Disk.acts c.args.disk.now) (g.D.Disk.acts c.args.disk.now) true
    c.input_bytes.result c.input_bytes.ensures.all

pub returns-then-eq-clause-other : goal.returns-then-eq-clause-other
returns-then-eq-clause-other g c = c.input_bytes.ensures.other

pub returns-then-eq-clause-device : goal.returns-then-eq-clause-device
returns-then-eq-clause-device g c = λ is. c.input_bytes.ensures.device

pub returns-then-eq-clause-untouched : goal.returns-then-eq-clause-untouched
returns-then-eq-clause-untouched g c = λ other.
    let no : true ≡ false = sym c.if-eq.true ∙ c.eq.ensures ∙ other in
    absurd (cc)

pub returns-else-eq-clause-read : goal.returns-else-eq-clause-read
returns-else-eq-clause-read g c =
    file_read c.args.word.now (g.I.Intake.left c.args.reader.now) _ _ true (sym c.eq.ensures ∙ c.if-eq.false) c.file_bytes.result c.file_bytes.ensures.read

pub returns-else-eq-clause-unread : goal.returns-else-eq-clause-unread
returns-else-eq-clause-unread g c = c.file_bytes.ensures.unread

pub returns-else-eq-clause-named : goal.returns-else-eq-clause-named
returns-else-eq-clause-named g c =
    file_named c.args.word.now (g.I.Intake.left c.args.reader.now) (g.D.Disk.acts c.args.disk.now) (g.D.Disk.acts c.args.disk.now) true
    (sym c.eq.ensures ∙ c.if-eq.false) c.file_bytes.result

pub returns-else-eq-clause-other : goal.returns-else-eq-clause-other
returns-else-eq-clause-other g c = c.file_bytes.ensures.other

pub returns-else-eq-clause-device : goal.returns-else-eq-clause-device
returns-else-eq-clause-device g c = λ is.
    let no : true ≡ false = sym is ∙ sym c.eq.ensures ∙ c.if-eq.false in
    absurd (cc)

pub returns-else-eq-clause-untouched : goal.returns-else-eq-clause-untouched
returns-else-eq-clause-untouched g c = λ other. refl
