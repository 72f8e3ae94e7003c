use Rattle.std.proofs.Common.{arith, rules}
use Rattle.std.proofs.lemmas.Grind.{common_steps}
use Rattle.csdf_analysis.proofs.calls.schedule.schedule.Goals as goal

pub returns : goal.returns
returns c = search rules

pub net_of-requires : goal.net_of-requires
net_of-requires c = grind (arith, common_steps)

pub in_order-requires : goal.in_order-requires
in_order-requires c = grind (arith, common_steps)
