use Rattle.std.proofs.Common.{arith}
use Rattle.std.proofs.lemmas.Grind.{common_steps}
use Rattle.csdf_core.proofs.feedback.given_before.Goals as goal

pub loop-channel-preserved : goal.loop-channel-preserved
loop-channel-preserved c = grind (arith, common_steps)

pub returns-then-channel-own : goal.returns-then-channel-own
returns-then-channel-own c = grind (arith, common_steps)

pub returns : goal.returns
returns c = grind (arith, common_steps)
