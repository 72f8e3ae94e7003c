use Rattle.std.proofs.Common.{rules}
use Rattle.csdf_graph.proofs.ranges.number_within.Goals as goal

pub returns-in-Ok : goal.returns-in-Ok
returns-in-Ok c = search rules
