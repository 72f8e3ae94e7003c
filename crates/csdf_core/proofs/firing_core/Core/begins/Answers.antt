use Rattle.csdf_core.specs.Inside.{now_in}
use Rattle.csdf_core.proofs.Fewer.{can_begin, can_fewer}
use Rattle.csdf_core.proofs.firing_core.Core.begins.Goals as goal

pub returns-clause-fires : goal.returns-clause-fires
returns-clause-fires c = rw (← c.self.view_is) (can_begin c.self.inside.plan c.args.actor (now_in c.self.inside))

pub returns-clause-fewer : goal.returns-clause-fewer
returns-clause-fewer c = rw (← c.self.view_is) (can_fewer c.self.inside.plan c.args.actor (now_in c.self.inside))
