use Rattle.std.proofs.Common.{arith}
use Rattle.std.proofs.lemmas.Grind.{common_steps}
use Rattle.csdf_tool.proofs.program.print_help.Goals as goal

pub returns-in_err-text-clause-unwritten : goal.returns-in_err-text-clause-unwritten
returns-in_err-text-clause-unwritten g c = grind (arith, common_steps)

pub returns-in_err-text-clause-failed : goal.returns-in_err-text-clause-failed
returns-in_err-text-clause-failed g c = grind (arith, common_steps)

pub returns-in_err-text-clause-caused : goal.returns-in_err-text-clause-caused
returns-in_err-text-clause-caused g c = grind (arith, common_steps)

pub returns-in-Ok-clause-unwritten : goal.returns-in-Ok-clause-unwritten
returns-in-Ok-clause-unwritten g c = grind (arith, common_steps)

pub returns-in-Ok-clause-failed : goal.returns-in-Ok-clause-failed
returns-in-Ok-clause-failed g c = grind (arith, common_steps)

pub returns-in-Ok-clause-caused : goal.returns-in-Ok-clause-caused
returns-in-Ok-clause-caused g c = grind (arith, common_steps)

pub returns-clause-unwritten : goal.returns-clause-unwritten
returns-clause-unwritten g c = grind (arith, common_steps)

pub returns-clause-failed : goal.returns-clause-failed
returns-clause-failed g c = grind (arith, common_steps)

pub returns-clause-caused : goal.returns-clause-caused
returns-clause-caused g c = grind (arith, common_steps)
