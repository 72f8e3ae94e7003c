use Rattle.std.proofs.Common.{arith}
use Rattle.std.proofs.lemmas.Grind.{common_steps}
use Rattle.csdf_floor.proofs.book.Book.kernel.Goals as goal

pub kernel-requires : goal.kernel-requires
kernel-requires c = grind (arith, common_steps)
