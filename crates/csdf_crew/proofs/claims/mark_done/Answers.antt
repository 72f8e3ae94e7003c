use Rattle.std.proofs.Common.{rules}
use Rattle.csdf_crew.proofs.Held.{done_just, done_made}
use Rattle.csdf_crew.proofs.claims.mark_done.Goals as goal

pub returns-clause-holds : goal.returns-clause-holds
returns-clause-holds c = search (rules, done_just)

pub returns-clause-made : goal.returns-clause-made
returns-clause-made c = search (rules, done_made)
