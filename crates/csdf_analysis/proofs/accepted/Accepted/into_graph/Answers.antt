use Rattle.std.proofs.Common.{rules}
use Rattle.csdf_analysis.proofs.accepted.Accepted.into_graph.Goals as goal

pub returns : goal.returns
returns c = search rules
