use Rattle.std.proofs.Common.{◌∙◌, arith}
use Rattle.csdf_floor.specs.Work.{IsMostPeriods}
use Rattle.csdf_floor.proofs.MostPeriods.{most_of_all, most_with_one, most_is_many}
use Rattle.csdf_floor.proofs.limits.most_periods.Goals as goal

pub loop-actor-preserved : goal.loop-actor-preserved
loop-actor-preserved c =
    most_with_one c.as_slice-firings.result.now c.loop-actor.actor c.loop-actor.most c.most_for.result c.saturating_sub-over.result
    c.saturating_sub-over.ensures c.loop-actor.invariant c.most_for.ensures

pub returns-clause-most : goal.returns-clause-most
returns-clause-most c =
    most_of_all c.args.accepted.now c.as_slice-firings.result.now c.loop-actor.actor c.loop-actor.most
    (c.as_slice-firings.ensures.value ∙ c.vector.ensures.firings) (omega arith) c.loop-actor.invariant

pub returns-clause-many : goal.returns-clause-many
returns-clause-many c =
    let most : IsMostPeriods c.args.accepted.now c.loop-actor.most =
    most_of_all c.args.accepted.now c.as_slice-firings.result.now c.loop-actor.actor c.loop-actor.most
    (c.as_slice-firings.ensures.value ∙ c.vector.ensures.firings) (omega arith) c.loop-actor.invariant in
    most_is_many c.args.accepted.now c.loop-actor.most c.vector.ensures.accepted most
