use Rattle.std.proofs.Common.{arith}
use Rattle.std.proofs.lemmas.Grind.{common_steps}
use Rattle.csdf_analysis.proofs.waits.is_short.Goals as goal

pub returns-then-channel-actor : goal.returns-then-channel-actor
returns-then-channel-actor c = grind (arith, common_steps)

pub holds_enough-requires-clause-within : goal.holds_enough-requires-clause-within
holds_enough-requires-clause-within c = grind (arith, common_steps)

pub holds_enough-requires-clause-phase : goal.holds_enough-requires-clause-phase
holds_enough-requires-clause-phase c = grind (arith, common_steps)

pub returns : goal.returns
returns c = grind (arith, common_steps)
