use Rattle.std.proofs.Common.{arith}
use Rattle.std.proofs.lemmas.Grind.{common_steps}
use Rattle.csdf_run.proofs.script.push_move.Goals as goal

pub returns-in-Write : goal.returns-in-Write
returns-in-Write c = grind (arith, common_steps)
