use Rattle.std.proofs.Common.{◌≡◌, length, map, ap, subst, sym, ◌∙◌}
use Rattle.std.specs.List.{zip}
use Rattle.std.proofs.lemmas.List.{length-map}
use Rattle.csdf_model.specs.Graph.{channel_view}
use Rattle.csdf_core.specs.Plan.{Plan}
use Rattle.csdf_core.specs.Planned.{channels_of, sources_of, with_capacity}
use Rattle.csdf_core.specs.Playable.{IsPlayable}
use Rattle.csdf_core.proofs.MadePlans.{made_of, playable_made}
use Rattle.csdf_core.proofs.plan.Plan.new.Goals as goal
use Rattle.csdf_core.proofs.plan.Plan.new.Goals.{After-capacities, After-cells}

module _ (c : After-capacities) where
  mine : map channel_view c.channels.result.now ≡ c.args.accepted.now.graph.channels
  mine = c.channels.ensures.value ∙ ap (λ g. g.channels) c.graph-graph.ensures.graph

  same : map with_capacity (zip (map channel_view c.channels.result.now) c.capacities.result.now) ≡ channels_of c.args.accepted.now
  same = ap (λ gs. map with_capacity (zip gs c.capacities.result.now)) mine
      ∙ ap (λ caps. map with_capacity (zip c.args.accepted.now.graph.channels caps)) c.capacities.ensures.value

pub planned_channels-requires : goal.planned_channels-requires
planned_channels-requires c =
    ap length c.capacities.ensures.value ∙ c.capacities.ensures.accepted.least.completes.each_channel
    ∙ ap length (sym (mine (goal.at.planned_channels-requires c).After-capacities)) ∙ length-map c.channels.result.now channel_view

pub planned_actors-requires : goal.planned_actors-requires
planned_actors-requires c =
    rw (c.deref.ensures.value, c.in_ok-channels.ensures, same (goal.at.planned_actors-requires c).After-capacities, c.graph-graph.ensures.graph)
    (made_of c.args.accepted.now c.graph-graph.ensures.accepted)

-- the plan that is made
pub returns-clause-plan : goal.returns-clause-plan
returns-clause-plan c =
    let channels = c.in_ok-channels.ensures ∙ same (goal.at.returns-clause-plan c).After-capacities in
    let sources = c.in_ok-actors.ensures.sources ∙ ap sources_of c.graph-graph.ensures.graph in
    rw (sources, channels, c.cells.ensures)

pub returns-clause-playable : goal.returns-clause-playable
returns-clause-playable c = subst (λ (p : Plan). IsPlayable p) (sym (returns-clause-plan c))
    (playable_made c.args.accepted.now c.args.limits.items c.args.supply.items c.args.firings c.graph-graph.ensures.accepted c.requires.limits c.requires.few)

pub invariant_of-result : goal.invariant_of-result
invariant_of-result c = record {
  playable = returns-clause-playable c;
  supplied = c.requires.supply ∙ sym c.requires.limits ∙ (returns-clause-playable c).limited;
  channels = rw (c.in_ok-channels.ensures, same (goal.at.invariant_of-result c).After-capacities)
      (made_of c.args.accepted.now c.graph-graph.ensures.accepted).kept;
  actors = rw (← c.deref.ensures.value) c.in_ok-actors.ensures.actors;
}
