use Rattle.std.proofs.Common.{arith}
use Rattle.std.proofs.lemmas.Grind.{common_steps}
use Rattle.csdf_crew.proofs.worker.claim_next.Goals as goal

pub returns-clause-holds : goal.returns-clause-holds
returns-clause-holds g c = grind (arith, common_steps)

pub claim_among-requires-2-clause-holds : goal.claim_among-requires-2-clause-holds
claim_among-requires-2-clause-holds g c = grind (arith, common_steps)

pub returns-clause-actor : goal.returns-clause-actor
returns-clause-actor g c = grind (arith, common_steps)
