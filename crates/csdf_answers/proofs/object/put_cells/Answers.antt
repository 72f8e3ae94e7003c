use Rattle.std.proofs.Common.{rules}
use Rattle.csdf_answers.proofs.object.put_cells.Goals as goal

pub returns-clause-tokens : goal.returns-clause-tokens
returns-clause-tokens c = search rules
