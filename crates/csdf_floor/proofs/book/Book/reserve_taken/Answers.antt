use Rattle.std.proofs.lemmas.Grind.{common_steps}
use Rattle.std.proofs.Common.{arith}
use Rattle.csdf_floor.proofs.Books.{sinks_each}
use Rattle.csdf_floor.proofs.book.Book.reserve_taken.Goals as goal

pub reserve-requires : goal.reserve-requires
reserve-requires c = (let there = rw (← c.self.view_is) at c.requires in omega (arith, there, sinks_each _ _ _ _ _ c.self.invariant))

pub returns-clause-shown : goal.returns-clause-shown
returns-clause-shown c = grind (arith, common_steps)

pub returns-clause-reads : goal.returns-clause-reads
returns-clause-reads c = grind (arith, common_steps)

pub returns-clause-room : goal.returns-clause-room
returns-clause-room c = grind (arith, common_steps)

pub returns-clause-sink : goal.returns-clause-sink
returns-clause-sink c = grind (arith, common_steps)

pub is_sink-requires : goal.is_sink-requires
is_sink-requires c = grind (arith, common_steps)

pub invariant_of-self : goal.invariant_of-self
invariant_of-self c = grind (arith, common_steps)

pub returns-then-not-is_sink-clause-sink : goal.returns-then-not-is_sink-clause-sink
returns-then-not-is_sink-clause-sink c = grind (arith, common_steps)
