use Rattle.std.proofs.Common.{rules}
use Rattle.csdf_answers.proofs.session.accept_fault.Goals as goal

pub returns-in_ok-name-in-Unbalanced : goal.returns-in_ok-name-in-Unbalanced
returns-in_ok-name-in-Unbalanced c = search rules
