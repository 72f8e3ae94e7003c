use Rattle.std.proofs.lemmas.Grind.{common_steps}
use Rattle.std.proofs.Common.{arith}
use Rattle.csdf_run.proofs.request.lengths_of.Goals as goal

pub loop-feed-preserved : goal.loop-feed-preserved
loop-feed-preserved c = grind (arith, common_steps)
