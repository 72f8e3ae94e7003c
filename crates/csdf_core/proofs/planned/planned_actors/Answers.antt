use Rattle.std.proofs.Common.{◌≡◌, ◌<◌, ◌++◌, ◌∷◌, [], Bool, List, false, length, map, ap, ◌∙◌, arith}
use Rattle.std.proofs.lemmas.List.{get_or_default, length-map, length_push}
use Rattle.csdf_model.specs.Graph as graph
use Rattle.csdf_model.specs.Graph.{actor_view}
use Rattle.csdf_model.specs.Kernels.{is_source_kernel}
use Rattle.csdf_core.specs.declared.planned.PlannedActor.{PlannedActor}
use Rattle.csdf_core.specs.PlanInside.{channel_in}
use Rattle.csdf_core.specs.Planned.{sources_of}
use Rattle.csdf_core.proofs.PlanLemmas.{actors_more, taken_on}
use Rattle.csdf_core.proofs.planned.planned_actors.Goals as goal

pub loop-actor-preserved : goal.loop-actor-preserved
loop-actor-preserved c =
    let x : PlannedActor = c.in_ok-planned_actor.field-0 in
    let done : List PlannedActor = c.loop-actor.actors.items in
    let sources : List Bool = sources_of c.args.graph.now in
    let count = c.loop-actor.invariant.count in
    let len = length_push done x in
    let many = ap length c.actors.ensures.value in
    let kernels = length-map c.args.graph.now.actors (λ (d : graph.Actor). is_source_kernel d.kernel) in
    let here : c.loop-actor.actor < length sources = omega (arith, many, kernels, length-map c.actors.result.now actor_view, c.loop-actor-test.true) in
    let pushed : c.push.new.self.items ≡ done ++ x ∷ [] = c.in_ok-push.ensures.items in
    rw pushed (record {
      count = omega arith;
      actors = actors_more (map channel_in c.args.channels.now) done x c.loop-actor.invariant.actors (rw count c.in_ok-planned_actor.ensures.actor);
      sources = taken_on (λ (d : PlannedActor). d.is_source) done sources c.loop-actor.actor x c.loop-actor.invariant.sources here
          (c.in_ok-planned_actor.ensures.source ∙ get_or_default sources c.loop-actor.actor false x.is_source here);
    })
