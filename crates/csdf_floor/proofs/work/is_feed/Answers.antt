use Rattle.std.proofs.lemmas.Grind.{common_steps}
use Rattle.std.proofs.Common.{◌≡◌, false, length, ap, sym, ◌∙◌, rules, arith}
use Rattle.std.proofs.lemmas.List.{length-map}
use Rattle.csdf_model.specs.declared.parts.Actor.{Actor as ActorCode}
use Rattle.csdf_model.specs.Graph.{Actor, actor_view}
use Rattle.csdf_core.specs.Planned.{is_source_kernel}
use Rattle.csdf_floor.specs.Work.{is_source_of}
use Rattle.csdf_floor.proofs.Works.{actor_at}
use Rattle.csdf_floor.proofs.work.is_feed.Goals as goal

pub bounds-actors-actor : goal.bounds-actors-actor
bounds-actors-actor c = omega (arith, c.requires, length-map c.actors.result.now actor_view, ap length c.actors.ensures.value)

pub returns-else-is_empty : goal.returns-else-is_empty
returns-else-is_empty c =
    let is : c.is_source.result ≡ is_source_of c.args.graph.now c.args.actor =
    c.is_source.ensures ∙ ap (λ (x : ActorCode). is_source_kernel x.kernel) (sym c.index-actors-actor.is)
    ∙ actor_at (λ (row : Actor). is_source_kernel row.kernel) c.actors.result.now c.args.graph.now.actors c.args.actor _ false c.actors.ensures.value c.requires
    c.index-actors-actor.is in
    search rules

pub returns-then-is_empty : goal.returns-then-is_empty
returns-then-is_empty c = grind (arith, common_steps)
