use Rattle.csdf_answers.proofs.ToldLemmas.{if_err_fault}
use Rattle.csdf_answers.proofs.described.describe_as.Goals as goal

pub returns-in_err-text-clause-refused : goal.returns-in_err-text-clause-refused
returns-in_err-text-clause-refused g c = if_err_fault _ c.in_err-text.field-0.0 _ c.from_residual.ensures.1 (λ known other. c.in_err-text.ensures known)
