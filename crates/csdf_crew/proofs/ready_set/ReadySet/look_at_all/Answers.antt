use Rattle.std.proofs.lemmas.Nat.Bits.{bit_at_ones}
use Rattle.csdf_crew.proofs.ready_set.ReadySet.look_at_all.Goals as goal

pub returns-clause-able : goal.returns-clause-able
returns-clause-able c = λ a lt can. c.look.ensures.able a (bit_at_ones 64 a lt) can
