use Rattle.std.proofs.Common.{rules}
use Rattle.csdf_graph.proofs.refusal.read_graph_explained.Goals as goal

pub returns-in-Ok-graph_of-clause-graph : goal.returns-in-Ok-graph_of-clause-graph
returns-in-Ok-graph_of-clause-graph c = search rules

pub returns-clause-fault : goal.returns-clause-fault
returns-clause-fault c = search rules
