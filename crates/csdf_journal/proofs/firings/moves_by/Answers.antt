use Rattle.std.proofs.Common.{arith}
use Rattle.std.proofs.lemmas.Grind.{common_steps}
use Rattle.csdf_journal.proofs.firings.moves_by.Goals as goal

pub loop-gift-preserved : goal.loop-gift-preserved
loop-gift-preserved c = grind (arith, common_steps)
