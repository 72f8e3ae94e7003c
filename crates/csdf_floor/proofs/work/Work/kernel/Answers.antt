use Rattle.std.proofs.Common.{◌≡◌, ◌<◌, get_or, length, ap, subst, sym, ◌∙◌, map, arith}
use Rattle.std.proofs.lemmas.List.{length-map}
use Rattle.csdf_model.specs.declared.parts.Kernel.TheVariants.{Sink}
use Rattle.csdf_model.specs.Graph.{Actor, Graph, actor_view}
use Rattle.csdf_kernel.specs.Value.{HasFilterInRange}
use Rattle.csdf_floor.proofs.Works.{actor_at, in_range}
use Rattle.csdf_floor.proofs.work.Work.kernel.Goals as goal
use Rattle.csdf_floor.proofs.work.Work.kernel.Goals.{After-index-actors-actor}

module _ (c : After-index-actors-actor) where
  there : c.args.actor < length c.self.inside.accepted.graph.actors
  there = rw (← c.self.view_is) at c.requires

  own : c.index-actors-actor.result.kernel ≡ get_or (map (λ (row : Actor). row.kernel) c.self.inside.accepted.graph.actors) c.args.actor Sink
  own = actor_at (λ (row : Actor). row.kernel) c.actors.result.now c.self.inside.accepted.graph.actors c.args.actor c.index-actors-actor.result Sink
      (c.actors.ensures.value ∙ ap (λ (g : Graph). g.actors) c.graph.ensures.graph) there c.index-actors-actor.is

pub bounds-actors-actor : goal.bounds-actors-actor
bounds-actors-actor c =
    let there = rw (← c.self.view_is) at c.requires in
    omega (
      arith,
      there,
      length-map c.actors.result.now actor_view,
      ap length c.actors.ensures.value,
      ap (λ (g : Graph). length g.actors) c.graph.ensures.graph,
    )

pub returns-clause-value : goal.returns-clause-value
returns-clause-value c =
    rw (← c.self.view_is)
    (c.kernel_in.ensures ∙ own (goal.at.returns-clause-value c).After-index-actors-actor)

pub returns-clause-in_range : goal.returns-clause-in_range
returns-clause-in_range c =
    let at : goal.After-index-actors-actor = (goal.at.returns-clause-in_range c).After-index-actors-actor in
    subst HasFilterInRange (sym c.kernel_in.ensures)
    (in_range c.self.inside.accepted.graph c.args.actor c.index-actors-actor.result.kernel c.self.invariant.accepted.well_formed (there at) (own at))
