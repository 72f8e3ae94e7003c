use Rattle.std.proofs.Common.{arith}
use Rattle.std.proofs.lemmas.Grind.{common_steps}
use Rattle.csdf_answers.proofs.session.lines_of.Goals as goal

pub loop-number-preserved : goal.loop-number-preserved
loop-number-preserved c = grind (arith, common_steps)

pub loop-number-init : goal.loop-number-init
loop-number-init c = grind (arith, common_steps)

pub line_in-requires : goal.line_in-requires
line_in-requires c = grind (arith, common_steps)

pub returns-in_err-line : goal.returns-in_err-line
returns-in_err-line c = grind (arith, common_steps)

pub returns-in_err-push-in-Some : goal.returns-in_err-push-in-Some
returns-in_err-push-in-Some c = grind (arith, common_steps)

pub returns-in-None : goal.returns-in-None
returns-in-None c = grind (arith, common_steps)

pub loop-number-smaller : goal.loop-number-smaller
loop-number-smaller c = grind (arith, common_steps)

pub returns : goal.returns
returns c = grind (arith, common_steps)
