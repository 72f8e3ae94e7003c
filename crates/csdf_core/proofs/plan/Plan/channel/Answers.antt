use Rattle.std.proofs.Common.{◌<◌, length, arith}
use Rattle.std.proofs.lemmas.List.{length-map}
use Rattle.csdf_core.specs.PlanInside.{channel_in}
use Rattle.csdf_core.proofs.PlanLemmas.{got, small_at_item}
use Rattle.csdf_core.proofs.plan.Plan.channel.Goals as goal
use Rattle.csdf_core.proofs.plan.Plan.channel.Goals.{After-index}

module _ (c : After-index) where
  there : c.args.channel < length c.self.inside.channels.items
  there = (let lt = rw (← c.self.view_is) at c.requires in omega (arith, lt, length-map c.self.inside.channels.items channel_in))

pub returns-clause-value : goal.returns-clause-value
returns-clause-value c =
    rw (← c.self.view_is) (got channel_in c.self.inside.channels.items c.args.channel c.index.result.now (there (goal.at.returns-clause-value c).After-index)
    c.index.ensures)

pub returns-clause-small : goal.returns-clause-small
returns-clause-small c = small_at_item c.self.inside.channels.items c.args.channel c.index.result.now c.self.invariant.channels
    (there (goal.at.returns-clause-small c).After-index) c.index.ensures
