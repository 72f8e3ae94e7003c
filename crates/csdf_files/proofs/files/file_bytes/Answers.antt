use Rattle.std.proofs.Common.{ap, inl, inr, refl, sym, ◌∙◌}
use Rattle.csdf_answers.specs.Faults.{unread}
use Rattle.csdf_answers.specs.declared.fault.DeviceName.TheVariants.{File}
use Rattle.csdf_answers.specs.declared.fault.ToolFault.TheVariants.{Memory}
use Rattle.csdf_answers.proofs.ToldLemmas.{if_err_fault}
use Rattle.csdf_files.proofs.InputLemmas.{file_ends}
use Rattle.csdf_files.proofs.DiskLemmas.{on_err, only_none, only_read}
use Rattle.csdf_files.proofs.FaultLemmas.{gives_none}
use Rattle.csdf_files.proofs.files.file_bytes.Goals as goal

pub returns-in-Err-clause-missing : goal.returns-in-Err-clause-missing
returns-in-Err-clause-missing g c =
    let why = c.in-Err.fault in
    inr (why, c.in-Err.ensures, c.unread.ensures ∙ ap (λ name. unread (File name) why) c.in_ok-name.ensures)

pub returns-in-Err-clause-unread : goal.returns-in-Err-clause-unread
returns-in-Err-clause-unread g c = only_read _ _ _ _ c.in-Err.ensures

pub returns-in-Err-clause-other : goal.returns-in-Err-clause-other
returns-in-Err-clause-other g c = λ output. file_ends c.in_ok-name.name c.in-Err.fault (sym c.unread.ensures ∙ output)

pub returns-in_err-name-clause-read : goal.returns-in_err-name-clause-read
returns-in_err-name-clause-read g c = gives_none c.from_residual.result Memory _ c.from_residual.ensures.1

pub returns-in_err-name-clause-unread : goal.returns-in_err-name-clause-unread
returns-in_err-name-clause-unread g c = on_err _ _ (only_none _)

pub returns-in_err-name-clause-missing : goal.returns-in_err-name-clause-missing
returns-in_err-name-clause-missing g c = if_err_fault _ Memory _ c.from_residual.ensures.1 (inl refl)

pub returns-in_err-name-clause-other : goal.returns-in_err-name-clause-other
returns-in_err-name-clause-other g c = if_err_fault _ Memory _ c.from_residual.ensures.1 (λ e. cc)
