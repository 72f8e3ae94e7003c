use Rattle.std.proofs.lemmas.Grind.{common_steps}
use Rattle.std.proofs.Common.{length, ap, arith}
use Rattle.csdf_floor.proofs.book.Book.output_count.Goals as goal

pub returns-clause-value : goal.returns-clause-value
returns-clause-value c = rw (← c.self.view_is) (ap length c.outputs.ensures.value)

pub outputs-requires : goal.outputs-requires
outputs-requires c = grind (arith, common_steps)
