use Rattle.std.proofs.Common.{arith}
use Rattle.std.proofs.lemmas.Grind.{common_steps}
use Rattle.csdf_run_files.proofs.run.files_of.Goals as goal

pub returns : goal.returns
returns c = grind (arith, common_steps)

pub returns-in_err-file : goal.returns-in_err-file
returns-in_err-file c = grind (arith, common_steps)

pub returns-in_err-files : goal.returns-in_err-files
returns-in_err-files c = grind (arith, common_steps)

pub returns-in_err-push : goal.returns-in_err-push
returns-in_err-push c = grind (arith, common_steps)
