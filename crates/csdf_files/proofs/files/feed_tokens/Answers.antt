use Rattle.std.proofs.Common.{inl, refl, rules}
use Rattle.csdf_answers.specs.declared.fault.ToolFault.TheVariants.{Memory}
use Rattle.csdf_answers.proofs.ToldLemmas.{if_err_fault}
use Rattle.csdf_files.proofs.DiskLemmas.{on_err, only_none, only_read}
use Rattle.csdf_files.proofs.FaultLemmas.{gives_none}
use Rattle.csdf_files.proofs.files.feed_tokens.Goals as goal

pub returns-in_err-source-clause-read : goal.returns-in_err-source-clause-read
returns-in_err-source-clause-read g c = gives_none c.from_residual.result Memory _ c.from_residual.ensures.1

pub returns-in_err-source-clause-only : goal.returns-in_err-source-clause-only
returns-in_err-source-clause-only g c = on_err _ _ (only_none _)

pub returns-in_err-source-clause-missing : goal.returns-in_err-source-clause-missing
returns-in_err-source-clause-missing g c = if_err_fault _ Memory _ c.from_residual.ensures.1 (inl refl)

pub returns-in_err-file-clause-read : goal.returns-in_err-file-clause-read
returns-in_err-file-clause-read g c = gives_none c.from_residual-in_err-file.result Memory _ c.from_residual-in_err-file.ensures.1

pub returns-in_err-file-clause-only : goal.returns-in_err-file-clause-only
returns-in_err-file-clause-only g c = on_err _ _ (only_none _)

pub returns-in_err-file-clause-missing : goal.returns-in_err-file-clause-missing
returns-in_err-file-clause-missing g c = if_err_fault _ Memory _ c.from_residual-in_err-file.ensures.1 (inl refl)

pub returns-in_err-path-clause-read : goal.returns-in_err-path-clause-read
returns-in_err-path-clause-read g c = gives_none c.from_residual-in_err-path.result Memory _ c.from_residual-in_err-path.ensures.1

pub returns-in_err-path-clause-only : goal.returns-in_err-path-clause-only
returns-in_err-path-clause-only g c = on_err _ _ (only_none _)

pub returns-in_err-path-clause-missing : goal.returns-in_err-path-clause-missing
returns-in_err-path-clause-missing g c = if_err_fault _ Memory _ c.from_residual-in_err-path.ensures.1 (inl refl)

pub returns-in-Err-Read-clause-only : goal.returns-in-Err-Read-clause-only
returns-in-Err-Read-clause-only g c = only_read _ _ _ _ c.in-Err-Read.ensures.unread

pub returns-in-Err-TooLong-clause-only : goal.returns-in-Err-TooLong-clause-only
returns-in-Err-TooLong-clause-only g c = only_read _ _ _ _ c.in-Err-TooLong.ensures.unread

pub returns-in-Err-Memory-clause-only : goal.returns-in-Err-Memory-clause-only
returns-in-Err-Memory-clause-only g c = only_read _ _ _ _ c.in-Err-Memory.ensures.unread

pub returns-in-Err-Read-clause-missing : goal.returns-in-Err-Read-clause-missing
returns-in-Err-Read-clause-missing g c = search rules

pub returns-in-Ok-clause-read : goal.returns-in-Ok-clause-read
returns-in-Ok-clause-read g c = search rules

pub returns-in-Err-TooLong-clause-missing : goal.returns-in-Err-TooLong-clause-missing
returns-in-Err-TooLong-clause-missing g c = search rules
