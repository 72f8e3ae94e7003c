use Rattle.std.proofs.Common.{rules}
use Rattle.csdf_kernel.proofs.eval_into.Goals as goal

pub returns-clause-value : goal.returns-clause-value
returns-clause-value c = search rules
