use Rattle.std.proofs.Common.{rules}
use Rattle.csdf_graph.proofs.fault.AtDisplay.fmt.Goals as goal

pub returns-in-Channel-clause-writes : goal.returns-in-Channel-clause-writes
returns-in-Channel-clause-writes c = search rules
