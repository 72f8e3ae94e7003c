use Rattle.std.proofs.Common.{◌∙◌, ap, length, arith, rules, List, map, subst, sym}
use Rattle.csdf_model.specs.WellFormed.{IsActor}
use Rattle.csdf_analysis.proofs.LowerLemmas.{within_for}
use Rattle.std.proofs.lemmas.Grind.{common_steps}
use Rattle.std.specs.Prelude.{All}
use Rattle.csdf_model.specs.Graph.{Actor, Channel, channel_view}
use Rattle.csdf_analysis.specs.Members.{IsLink}
use Rattle.csdf_analysis.proofs.BoundLemmas.{links_of}
use Rattle.csdf_analysis.proofs.calls.repetition.repetition.Goals as goal

pub cycles-requires-clause-channels : goal.cycles-requires-clause-channels
cycles-requires-clause-channels c =
    let whole = c.actors.ensures.well_formed in
    subst (λ (actors : List Actor). All (IsLink actors) (map channel_view c.channels.result.now)) (sym c.actors.ensures.value)
    (subst (λ (channels : List Channel). All (IsLink c.args.graph.now.actors) channels) (sym c.channels.ensures.value)
    (links_of c.args.graph.now.actors c.args.graph.now.channels whole.fitting.actors whole.fitting.channels))

pub returns-clause-vector : goal.returns-clause-vector
returns-clause-vector c = search rules

pub returns-clause-refusal : goal.returns-clause-refusal
returns-clause-refusal c = grind (arith, common_steps)

pub returns-in_err-r-clause-refusal : goal.returns-in_err-r-clause-refusal
returns-in_err-r-clause-refusal c = grind (arith, common_steps)

pub returns-in_err-map_err-clause-refusal : goal.returns-in_err-map_err-clause-refusal
returns-in_err-map_err-clause-refusal c = grind (arith, common_steps)

pub firings-requires-clause-each_actor : goal.firings-requires-clause-each_actor
firings-requires-clause-each_actor c = grind (arith, common_steps)

pub cycles-requires-clause-few : goal.cycles-requires-clause-few
cycles-requires-clause-few c = grind (arith, common_steps)

pub check_capacities-requires-clause-few : goal.check_capacities-requires-clause-few
check_capacities-requires-clause-few c = grind (arith, common_steps)

pub firings-requires-clause-actors : goal.firings-requires-clause-actors
firings-requires-clause-actors c = subst (All IsActor) (sym c.actors-2.ensures.value) c.actors-2.ensures.well_formed.fitting.actors

pub check_capacities-requires-clause-channels : goal.check_capacities-requires-clause-channels
check_capacities-requires-clause-channels c =
    within_for c.args.graph.now c.in_ok-q.q.items _ _ c.channels-2.ensures.well_formed (c.in_ok-q.ensures.each_actor ∙ ap length c.actors-2.ensures.value)
    c.deref-2.ensures.value c.channels-2.ensures.value
