use Rattle.std.proofs.lemmas.Grind.{common_steps}
use Rattle.std.proofs.Common.{rules, arith}
use Rattle.csdf_floor.proofs.book.Book.is_under_way.Goals as goal

pub returns-then-are_counts : goal.returns-then-are_counts
returns-then-are_counts c = search rules

pub are_counts-requires : goal.are_counts-requires
are_counts-requires c = grind (arith, common_steps)

pub kernel-requires : goal.kernel-requires
kernel-requires c = grind (arith, common_steps)

pub are_inputs-requires : goal.are_inputs-requires
are_inputs-requires c = grind (arith, common_steps)
