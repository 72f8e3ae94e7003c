use Rattle.std.proofs.lemmas.Nat.Bits.{bit_at_ones}
use Rattle.csdf_analysis.proofs.WakeLemmas.{in_below}
use Rattle.csdf_crew.proofs.ready_set.ReadySet.enabled.Goals as goal

pub returns-else-self : goal.returns-else-self
returns-else-self c = λ a set. bit_at_ones 64 a (in_below c.args.mask a c.ranges.mask.fits set)
