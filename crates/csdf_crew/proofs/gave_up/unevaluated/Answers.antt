use Rattle.std.proofs.Common.{rules}
use Rattle.csdf_crew.proofs.gave_up.unevaluated.Goals as goal

pub returns : goal.returns
returns c = search rules
