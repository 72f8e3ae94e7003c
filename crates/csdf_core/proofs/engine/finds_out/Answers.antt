use Rattle.std.proofs.lemmas.Grind.{common_steps}
use Rattle.std.proofs.Common.{arith}
use Rattle.csdf_core.proofs.engine.finds_out.Goals as goal

pub returns-then-consumer-actor : goal.returns-then-consumer-actor
returns-then-consumer-actor c = grind (arith, common_steps)
