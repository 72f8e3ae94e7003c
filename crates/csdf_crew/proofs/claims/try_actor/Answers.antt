use Rattle.std.proofs.Common.{rules}
use Rattle.csdf_crew.proofs.claims.try_actor.Goals as goal

pub returns-in-Ok-clause-claim : goal.returns-in-Ok-clause-claim
returns-in-Ok-clause-claim c = search rules
