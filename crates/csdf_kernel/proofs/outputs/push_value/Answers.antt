use Rattle.std.proofs.Common.{rules}
use Rattle.csdf_kernel.proofs.outputs.push_value.Goals as goal

pub returns-clause-items : goal.returns-clause-items
returns-clause-items c = search rules
