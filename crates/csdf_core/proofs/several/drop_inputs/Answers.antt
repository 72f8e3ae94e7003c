use Rattle.std.proofs.Common.{arith}
use Rattle.std.proofs.lemmas.Grind.{common_steps}
use Rattle.csdf_core.proofs.several.drop_inputs.Goals as goal

pub loop-channel-preserved : goal.loop-channel-preserved
loop-channel-preserved c = grind (arith, common_steps)

pub drop_tokens-requires-clause-enough : goal.drop_tokens-requires-clause-enough
drop_tokens-requires-clause-enough c = grind (arith, common_steps)
