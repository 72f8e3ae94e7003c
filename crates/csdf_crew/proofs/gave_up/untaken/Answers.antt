use Rattle.std.proofs.Common.{rules}
use Rattle.csdf_crew.proofs.gave_up.untaken.Goals as goal

pub returns-in-Stranger : goal.returns-in-Stranger
returns-in-Stranger c = search rules
