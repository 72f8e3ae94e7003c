use Rattle.std.proofs.Common.{arith}
use Rattle.std.proofs.lemmas.Grind.{common_steps}
use Rattle.csdf_core.proofs.engine.times_over.Goals as goal

pub returns-then-n-from-clause-fits : goal.returns-then-n-from-clause-fits
returns-then-n-from-clause-fits c = grind (arith, common_steps)

pub returns-else-n-from-clause-fits : goal.returns-else-n-from-clause-fits
returns-else-n-from-clause-fits c = grind (arith, common_steps)
