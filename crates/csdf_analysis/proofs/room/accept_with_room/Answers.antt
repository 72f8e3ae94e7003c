use Rattle.std.proofs.Common.{rules}
use Rattle.csdf_analysis.proofs.room.accept_with_room.Goals as goal

pub returns-clause-graph : goal.returns-clause-graph
returns-clause-graph c = search rules
