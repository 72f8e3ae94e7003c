use Rattle.std.proofs.lemmas.Grind.{common_steps}
use Rattle.std.proofs.Common.{arith, List, map, subst}
use Rattle.csdf_model.specs.Graph.{Channel, actor_view, channel_view}
use Rattle.csdf_analysis.specs.Demands.{AskBefore}
use Rattle.csdf_analysis.specs.Members.{AreMembers}
use Rattle.csdf_analysis.proofs.DemandLemmas.{demand_is, link_seen, links_seen}
use Rattle.csdf_analysis.proofs.calls.demand.demand_of.Goals as goal

pub members_before-requires-clause-channels : goal.members_before-requires-clause-channels
members_before-requires-clause-channels c =
    links_seen c.args.graph.now _ c.channels-channels.result.now c.actors-actors.ensures.well_formed c.actors-actors.ensures.value
    c.channels-channels.ensures.value

pub asked_by-requires : goal.asked_by-requires
asked_by-requires c =
    link_seen c.args.graph.now _ c.channels-channels.result.now c.args.number _ c.actors-actors.ensures.well_formed c.actors-actors.ensures.value
    c.channels-channels.ensures.value c.requires c.index-channels-number.is

pub asked_of-requires-clause-link : goal.asked_of-requires-clause-link
asked_of-requires-clause-link c =
    link_seen c.args.graph.now _ c.channels-channels.result.now c.args.number _ c.actors-actors.ensures.well_formed c.actors-actors.ensures.value
    c.channels-channels.ensures.value c.requires c.index-channels-number.is

pub returns-clause-demand : goal.returns-clause-demand
returns-clause-demand c =
    demand_is c.args.graph.now _ c.channels-channels.result.now c.args.number c.index-channels-number.result _ _ c.actors-actors.ensures.value
    c.channels-channels.ensures.value c.requires c.index-channels-number.is c.asked_by.ensures c.in_ok-members.ensures.members
    (subst (λ ms. (done : List Channel) → AreMembers (map actor_view c.actors-actors.result.now) done ms
    → AskBefore (map actor_view c.actors-actors.result.now) done (channel_view c.index-channels-number.result) c.asked_of.result) c.deref.ensures.value
    c.asked_of.ensures)

pub bounds-channels-number : goal.bounds-channels-number
bounds-channels-number c = grind (arith, common_steps)

pub members_before-requires-clause-few : goal.members_before-requires-clause-few
members_before-requires-clause-few c = grind (arith, common_steps)

pub members_before-requires-clause-exists : goal.members_before-requires-clause-exists
members_before-requires-clause-exists c = grind (arith, common_steps)
