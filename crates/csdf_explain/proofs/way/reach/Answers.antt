use Rattle.std.proofs.Common.{rules}
use Rattle.csdf_explain.proofs.way.reach.Goals as goal

pub returns-then-is_new-clause-new : goal.returns-then-is_new-clause-new
returns-then-is_new-clause-new c = search rules
