use Rattle.std.proofs.lemmas.Grind.{common_steps}
use Rattle.std.proofs.Common.{arith}
use Rattle.csdf_kernel.proofs.numbers.clamped.Goals as goal

pub overflow_cast-clamp : goal.overflow_cast-clamp
overflow_cast-clamp c = grind (arith, common_steps)

pub overflow_cast-clamp-2 : goal.overflow_cast-clamp-2
overflow_cast-clamp-2 c = grind (arith, common_steps)

pub overflow_cast-result : goal.overflow_cast-result
overflow_cast-result c = grind (arith, common_steps)
