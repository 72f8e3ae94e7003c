use Rattle.std.proofs.Common.{◌≡◌, Ok, Err, inl, sym}
use Rattle.csdf_answers.specs.Session.{IsAnswer}
use Rattle.csdf_answers.specs.declared.fault.DeviceName.TheVariants.{Input}
use Rattle.csdf_answers.specs.declared.fault.ToolFault.TheVariants.{Device}
use Rattle.csdf_answers.proofs.ToldLemmas.{if_err_fault}
use Rattle.csdf_run_files.proofs.FaultLemmas.{err_as}
use Rattle.csdf_tool.proofs.CauseLemmas.{given_bytes, lacks_answer, puts_out}
use Rattle.csdf_tool.proofs.answer_files.play_file.Goals as goal

pub returns-clause-written : goal.returns-clause-written
returns-clause-written g c =
    let given = given_bytes c.args.word.now _ c.in_ok-bytes.ensures.named c.in_ok-bytes.ensures.read (sym c.deref.ensures.value) in
    puts_out IsAnswer c.args.word.now _ _ given c.play_script.result (g.O.Outlet.written c.args.out.now) _ c.play_script.ensures.written

pub returns-clause-caused : goal.returns-clause-caused
returns-clause-caused g c =
    let given = given_bytes c.args.word.now _ c.in_ok-bytes.ensures.named c.in_ok-bytes.ensures.read (sym c.deref.ensures.value) in
    lacks_answer IsAnswer c.args.word.now _ _ given _ c.play_script.result c.play_script.ensures.refused c.play_script.ensures.failed

pub returns-clause-input : goal.returns-clause-input
returns-clause-input g c = λ is failed.
    let no : Ok c.in_ok-bytes.bytes ≡ Err (Device Input) = (c.in_ok-bytes.ensures.device is).1 failed in
    absurd (cc)

pub returns-in_err-bytes-clause-caused : goal.returns-in_err-bytes-clause-caused
returns-in_err-bytes-clause-caused g c = if_err_fault _ c.in_err-bytes.field-0.0 _ c.from_residual.ensures.1 (inl c.in_err-bytes.ensures.missing)

pub returns-in_err-bytes-clause-input : goal.returns-in_err-bytes-clause-input
returns-in_err-bytes-clause-input g c = λ is failed.
    let told = (c.in_err-bytes.ensures.device is).1 failed in
    err_as _ c.in_err-bytes.field-0.0 (Device Input) c.from_residual.ensures.1 (cc)
