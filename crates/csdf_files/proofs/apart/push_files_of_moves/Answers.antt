use Rattle.std.proofs.lemmas.Grind.{common_steps}
use Rattle.std.proofs.Common.{arith}
use Rattle.csdf_files.proofs.apart.push_files_of_moves.Goals as goal

pub returns : goal.returns
returns c = grind (arith, common_steps)
