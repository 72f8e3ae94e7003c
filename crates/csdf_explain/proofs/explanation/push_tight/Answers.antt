use Rattle.std.proofs.Common.{rules}
use Rattle.csdf_explain.proofs.explanation.push_tight.Goals as goal

pub returns-in-Some : goal.returns-in-Some
returns-in-Some c = search rules
