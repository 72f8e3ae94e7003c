use Rattle.std.proofs.Common.{arith}
use Rattle.std.proofs.lemmas.Grind.{common_steps}
use Rattle.csdf_analysis.proofs.run.Run.new.Goals as goal

pub returns-clause-run : goal.returns-clause-run
returns-clause-run c = grind (arith, common_steps)

pub returns-clause-bounds : goal.returns-clause-bounds
returns-clause-bounds c = grind (arith, common_steps)

pub returns-clause-counts : goal.returns-clause-counts
returns-clause-counts c = grind (arith, common_steps)
