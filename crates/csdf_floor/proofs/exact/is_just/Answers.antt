use Rattle.std.proofs.Common.{◌≡◌, true, false, List, ap, sym, ◌∙◌}
use Rattle.csdf_model.specs.declared.parts.Actor.{Actor as ActorCode}
use Rattle.csdf_model.specs.Graph.{Actor, Channel}
use Rattle.csdf_core.specs.Planned.{is_source_kernel}
use Rattle.csdf_floor.specs.Continuing.{given_in}
use Rattle.csdf_floor.specs.Work.{is_source_of}
use Rattle.csdf_floor.proofs.Works.{actor_at}
use Rattle.csdf_floor.proofs.exact.is_just.Goals as goal

pub returns-then-not-is_source : goal.returns-then-not-is_source
returns-then-not-is_source c =
    let is : c.is_source.result ≡ is_source_of c.args.graph.now c.args.actor =
    c.is_source.ensures ∙ ap (λ (x : ActorCode). is_source_kernel x.kernel) (sym c.index-actors-actor.is)
    ∙ actor_at (λ (row : Actor). is_source_kernel row.kernel) c.actors.result.now c.args.graph.now.actors c.args.actor _ false c.actors.ensures.value c.requires
    c.index-actors-actor.is in
    let none = c.if-not-is_source.true in
    (λ e source. absurd (cc), λ just. (cc))

pub returns-else-not-is_source : goal.returns-else-not-is_source
returns-else-not-is_source c =
    let is : c.is_source.result ≡ is_source_of c.args.graph.now c.args.actor =
    c.is_source.ensures ∙ ap (λ (x : ActorCode). is_source_kernel x.kernel) (sym c.index-actors-actor.is)
    ∙ actor_at (λ (row : Actor). is_source_kernel row.kernel) c.actors.result.now c.args.graph.now.actors c.args.actor _ false c.actors.ensures.value c.requires
    c.index-actors-actor.is in
    let one = c.if-not-is_source.false in
    let source : is_source_of c.args.graph.now c.args.actor ≡ true = cc in
    let all = ap (λ (cs : List Channel). given_in cs c.args.actor c.args.firings) c.channels.ensures.value in
    (λ e s. c.gives.ensures.0 e ∙ all, λ just. c.gives.ensures.1 (just source ∙ sym all))
