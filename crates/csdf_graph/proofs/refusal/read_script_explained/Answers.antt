use Rattle.std.proofs.Common.{rules}
use Rattle.csdf_graph.proofs.refusal.read_script_explained.Goals as goal

pub returns-in-Ok-script_in-clause-script : goal.returns-in-Ok-script_in-clause-script
returns-in-Ok-script_in-clause-script c = search rules

pub returns-clause-fault : goal.returns-clause-fault
returns-clause-fault c = search rules
