use Rattle.std.proofs.Common.{rules}
use Rattle.csdf_model.proofs.graph.Graph.actors.Goals as goal

pub returns-clause-value : goal.returns-clause-value
returns-clause-value c = search rules
