use Rattle.std.proofs.Common.{arith}
use Rattle.std.proofs.lemmas.Grind.{common_steps}
use Rattle.csdf_files.proofs.files.put_file.Goals as goal

pub returns-in_err-name-clause-put : goal.returns-in_err-name-clause-put
returns-in_err-name-clause-put g c = grind (arith, common_steps)

pub returns-in_err-name-clause-unput : goal.returns-in_err-name-clause-unput
returns-in_err-name-clause-unput g c = grind (arith, common_steps)

pub returns-in_err-path-clause-put : goal.returns-in_err-path-clause-put
returns-in_err-path-clause-put g c = grind (arith, common_steps)

pub returns-in_err-path-clause-unput : goal.returns-in_err-path-clause-unput
returns-in_err-path-clause-unput g c = grind (arith, common_steps)

pub returns-in-Ok-clause-put : goal.returns-in-Ok-clause-put
returns-in-Ok-clause-put g c = grind (arith, common_steps)

pub returns-in-Ok-clause-unput : goal.returns-in-Ok-clause-unput
returns-in-Ok-clause-unput g c = grind (arith, common_steps)

pub returns-in-Err-Device-clause-put : goal.returns-in-Err-Device-clause-put
returns-in-Err-Device-clause-put g c = grind (arith, common_steps)

pub returns-in-Err-Device-clause-unput : goal.returns-in-Err-Device-clause-unput
returns-in-Err-Device-clause-unput g c = grind (arith, common_steps)

pub returns-in-Err-Memory-clause-put : goal.returns-in-Err-Memory-clause-put
returns-in-Err-Memory-clause-put g c = grind (arith, common_steps)

pub returns-in-Err-Memory-clause-unput : goal.returns-in-Err-Memory-clause-unput
returns-in-Err-Memory-clause-unput g c = grind (arith, common_steps)
