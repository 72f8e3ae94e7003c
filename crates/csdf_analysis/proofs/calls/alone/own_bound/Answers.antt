use Rattle.std.proofs.Common.{rules}
use Rattle.csdf_analysis.proofs.calls.alone.own_bound.Goals as goal

pub returns-in-Some : goal.returns-in-Some
returns-in-Some c = search rules
