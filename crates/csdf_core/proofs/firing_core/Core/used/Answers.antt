use Rattle.std.proofs.lemmas.Grind.{common_steps}
use Rattle.std.proofs.Common.{arith}
use Rattle.csdf_core.proofs.CoreLemmas.{held-chains}
use Rattle.csdf_core.proofs.firing_core.Core.used.Goals as goal

pub returns-clause-small : goal.returns-clause-small
returns-clause-small c = omega (
  arith,
  c.self.invariant.sound.fit.room,
  c.self.invariant.sound.playable.few_cells,
  c.self.invariant.sound.keeps,
  c.self.invariant.sound.cells.size,
  held-chains c.self.inside.pool.chains,
)

pub returns-clause-value : goal.returns-clause-value
returns-clause-value c = grind (arith, common_steps)
