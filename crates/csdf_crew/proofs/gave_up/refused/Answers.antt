use Rattle.std.proofs.Common.{rules}
use Rattle.csdf_crew.proofs.gave_up.refused.Goals as goal

pub returns-in-Memory-clause-gives_up : goal.returns-in-Memory-clause-gives_up
returns-in-Memory-clause-gives_up c = search rules
