use Rattle.std.proofs.Common.{rules}
use Rattle.csdf_graph.proofs.refusal.refused.Goals as goal

pub returns : goal.returns
returns c = search rules
