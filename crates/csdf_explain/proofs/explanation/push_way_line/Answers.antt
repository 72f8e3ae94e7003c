use Rattle.std.proofs.Common.{rules}
use Rattle.csdf_explain.proofs.explanation.push_way_line.Goals as goal

pub returns : goal.returns
returns c = search rules
