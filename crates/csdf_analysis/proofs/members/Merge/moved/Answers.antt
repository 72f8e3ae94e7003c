use Rattle.std.proofs.Common.{rules}
use Rattle.csdf_analysis.proofs.members.Merge.moved.Goals as goal

pub returns : goal.returns
returns c = search rules
