use Rattle.std.proofs.lemmas.Grind.{common_steps}
use Rattle.std.proofs.Common.{arith}
use Rattle.csdf_core.proofs.engine.held_in.Goals as goal

pub returns-then-producer-actor-clause-held : goal.returns-then-producer-actor-clause-held
returns-then-producer-actor-clause-held c = grind (arith, common_steps)
