use Rattle.std.proofs.Common.{rules}
use Rattle.csdf_answers.proofs.session.accepted_in.Goals as goal

pub returns-in-Ok-clause-graph : goal.returns-in-Ok-clause-graph
returns-in-Ok-clause-graph c = search rules
