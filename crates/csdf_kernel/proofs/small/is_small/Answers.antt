use Rattle.std.proofs.Common.{rules}
use Rattle.csdf_kernel.proofs.small.is_small.Goals as goal

pub returns : goal.returns
returns c = search rules
