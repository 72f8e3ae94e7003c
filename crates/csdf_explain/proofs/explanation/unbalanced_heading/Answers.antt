use Rattle.std.proofs.Common.{rules}
use Rattle.csdf_explain.proofs.explanation.unbalanced_heading.Goals as goal

pub returns-in-None : goal.returns-in-None
returns-in-None c = search rules
