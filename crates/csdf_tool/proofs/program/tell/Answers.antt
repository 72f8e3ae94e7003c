use Rattle.std.proofs.Common.{ℕ, List, inl, subst, sym}
use Rattle.csdf_answers.specs.Objects.{TellsFault}
use Rattle.csdf_answers.specs.declared.question.Form.{Form}
use Rattle.csdf_tool.proofs.EndLemmas.{tells_line}
use Rattle.csdf_tool.proofs.program.tell.Goals as goal

pub returns : goal.returns
returns g c =
    let line = subst (λ (line : List ℕ). TellsFault c.told_in-told.result c.args.fault.now line) (sym c.deref.ensures.value) c.in-Ok.ensures in
    let told = subst (λ (form : Form). TellsFault form c.args.fault.now c.deref.result.now) c.told_in-told.ensures line in
    inl (record { ends = c.status.ensures; line = tells_line c.args.form c.args.fault.now _ _ _ _ told c.put_line-2.ensures })
