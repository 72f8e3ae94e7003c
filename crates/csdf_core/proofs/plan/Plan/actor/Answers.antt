use Rattle.std.proofs.Common.{◌<◌, length, map, false, ap, subst, sym, ◌∙◌, arith}
use Rattle.std.proofs.lemmas.List.{get_or-map, length-map}
use Rattle.csdf_core.specs.declared.planned.PlannedActor.{PlannedActor}
use Rattle.csdf_core.specs.PlanInside.{channel_in, IsActor}
use Rattle.csdf_core.proofs.plan.Plan.actor.Goals as goal
use Rattle.csdf_core.proofs.plan.Plan.actor.Goals.{After-index}

module _ (c : After-index) where
  there : c.args.actor < length c.self.inside.actors.items
  there = (let lt = rw (← c.self.view_is) at c.requires in
      omega (arith, lt, length-map c.self.inside.actors.items (λ (a : PlannedActor). a.is_source)))

pub returns-clause-actor : goal.returns-clause-actor
returns-clause-actor c =
    rw (← c.self.view_is) (subst (IsActor (map channel_in c.self.inside.channels.items) c.args.actor) (sym c.index.ensures)
    (c.self.invariant.actors c.args.actor c.index.result.now (there (goal.at.returns-clause-actor c).After-index)))

pub returns-clause-source : goal.returns-clause-source
returns-clause-source c =
    rw (← c.self.view_is) (ap (λ d. d.is_source) c.index.ensures
    ∙ sym (get_or-map (λ (d : PlannedActor). d.is_source) c.self.inside.actors.items c.args.actor c.index.result.now false
    (there (goal.at.returns-clause-source c).After-index)))
