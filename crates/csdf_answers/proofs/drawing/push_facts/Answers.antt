use Rattle.std.proofs.Common.{arith}
use Rattle.std.proofs.lemmas.Grind.{common_steps}
use Rattle.csdf_answers.proofs.drawing.push_facts.Goals as goal

pub returns-in_err-push_str : goal.returns-in_err-push_str
returns-in_err-push_str c = grind (arith, common_steps)

pub returns-in_err-push_rates : goal.returns-in_err-push_rates
returns-in_err-push_rates c = grind (arith, common_steps)

pub returns-in_err-write : goal.returns-in_err-write
returns-in_err-write c = grind (arith, common_steps)

pub returns : goal.returns
returns c = grind (arith, common_steps)
