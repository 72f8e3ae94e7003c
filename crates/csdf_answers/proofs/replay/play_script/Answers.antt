use Rattle.std.proofs.Common.{◌≡◌, sym, subst, ◌∙◌}
use Rattle.csdf_answers.specs.declared.fault.ToolFault.TheVariants as fault
use Rattle.csdf_answers.specs.declared.fault.DeviceName.TheVariants.{Output}
use Rattle.csdf_answers.proofs.AnswerLemmas.{IsOfFile, refusal_by_file}
use Rattle.csdf_answers.proofs.ToldLemmas.{if_err_fault}
use Rattle.csdf_answers.proofs.replay.play_script.Goals as goal

pub returns-in_err-text-clause-failed : goal.returns-in_err-text-clause-failed
returns-in_err-text-clause-failed g c = λ e.
    let told = rw e at c.from_residual.ensures in
    let same : c.in_err-text.field-0.0 ≡ fault.Device Output = cc in
    let answer = c.in_err-text.ensures (λ m. let no : fault.Device Output ≡ fault.Memory = sym same ∙ m in cc) in
    absurd (subst IsOfFile same (refusal_by_file c.args.bytes.now c.in_err-text.field-0.0 answer))

pub returns-in_err-text-clause-refused : goal.returns-in_err-text-clause-refused
returns-in_err-text-clause-refused g c = if_err_fault _ c.in_err-text.field-0.0 _ c.from_residual.ensures.1 (λ known other. c.in_err-text.ensures known)
