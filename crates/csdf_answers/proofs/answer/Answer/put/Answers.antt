use Rattle.std.proofs.Common.{rules}
use Rattle.csdf_answers.proofs.answer.Answer.put.Goals as goal

pub returns-in-Check-clause-tokens : goal.returns-in-Check-clause-tokens
returns-in-Check-clause-tokens c = search rules
