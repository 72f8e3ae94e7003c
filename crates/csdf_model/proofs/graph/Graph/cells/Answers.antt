use Rattle.std.proofs.Common.{rules}
use Rattle.csdf_model.proofs.graph.Graph.cells.Goals as goal

pub returns : goal.returns
returns c = search rules
