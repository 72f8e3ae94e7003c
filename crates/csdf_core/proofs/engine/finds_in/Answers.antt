use Rattle.std.proofs.lemmas.Grind.{common_steps}
use Rattle.std.proofs.Common.{arith}
use Rattle.csdf_core.proofs.engine.finds_in.Goals as goal

pub returns : goal.returns
returns c = grind (arith, common_steps)

pub returns-then-producer-actor : goal.returns-then-producer-actor
returns-then-producer-actor c = grind (arith, common_steps)
