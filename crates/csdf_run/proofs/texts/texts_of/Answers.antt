use Rattle.std.proofs.Common.{arith}
use Rattle.std.proofs.lemmas.Grind.{common_steps}
use Rattle.csdf_run.proofs.texts.texts_of.Goals as goal

pub returns-clause-sinks : goal.returns-clause-sinks
returns-clause-sinks c = grind (arith, common_steps)

pub returns-clause-channels : goal.returns-clause-channels
returns-clause-channels c = grind (arith, common_steps)
