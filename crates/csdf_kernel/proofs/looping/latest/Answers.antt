use Rattle.std.proofs.Common.{rules}
use Rattle.csdf_kernel.proofs.looping.latest.Goals as goal

pub returns-then-values-size : goal.returns-then-values-size
returns-then-values-size c = search rules
