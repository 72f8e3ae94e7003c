use Rattle.std.proofs.Common.{arith}
use Rattle.std.proofs.lemmas.Grind.{common_steps}
use Rattle.csdf_core.proofs.block_moves.drop_apart.Goals as goal

pub loop-channel-preserved : goal.loop-channel-preserved
loop-channel-preserved c = grind (arith, common_steps)

pub drop_many-requires-clause-channel : goal.drop_many-requires-clause-channel
drop_many-requires-clause-channel c = grind (arith, common_steps)

pub drop_many-requires-clause-enough : goal.drop_many-requires-clause-enough
drop_many-requires-clause-enough c = grind (arith, common_steps)
