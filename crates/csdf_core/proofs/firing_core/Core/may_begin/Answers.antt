use Rattle.std.proofs.lemmas.Grind.{common_steps}
use Rattle.std.proofs.Common.{arith}
use Rattle.csdf_core.proofs.SoundLemmas.{few_started}
use Rattle.csdf_core.proofs.firing_core.Core.may_begin.Goals as goal

pub overflow_add-result : goal.overflow_add-result
overflow_add-result c = omega (arith, few_started _ _ _ _ _ _ _ c.self.invariant.sound, c.from.ensures, c.ranges.n.fits)

pub returns-in-Some : goal.returns-in-Some
returns-in-Some c = grind (arith, common_steps)

pub returns-in-None : goal.returns-in-None
returns-in-None c = grind (arith, common_steps)
