use Rattle.std.proofs.Common.{rules}
use Rattle.csdf_crew.proofs.claims.finish.Goals as goal

pub returns-in-Some-clause-told : goal.returns-in-Some-clause-told
returns-in-Some-clause-told g c = search rules
