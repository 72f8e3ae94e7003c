use Rattle.std.proofs.Common.{rules}
use Rattle.csdf_analysis.proofs.accepted.Accepted.try_copy.Goals as goal

pub returns : goal.returns
returns c = search rules
