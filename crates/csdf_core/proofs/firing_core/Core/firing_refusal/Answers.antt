use Rattle.std.proofs.Common.{arith}
use Rattle.std.proofs.lemmas.Grind.{common_steps}
use Rattle.csdf_core.proofs.firing_core.Core.firing_refusal.Goals as goal

pub first_closed-requires-clause-actor : goal.first_closed-requires-clause-actor
first_closed-requires-clause-actor c = grind (arith, common_steps)

pub space_refusal-requires-clause-in_phase : goal.space_refusal-requires-clause-in_phase
space_refusal-requires-clause-in_phase c = grind (arith, common_steps)

pub limit-requires : goal.limit-requires
limit-requires c = grind (arith, common_steps)

pub space_refusal-requires-clause-firing : goal.space_refusal-requires-clause-firing
space_refusal-requires-clause-firing c = grind (arith, common_steps)
