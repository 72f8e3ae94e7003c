use Rattle.std.proofs.Common.{◌≡◌, ◌≤◌, ◌<◌, false, length, map, subst, sym, ap, ◌∙◌, arith}
use Rattle.std.proofs.lemmas.List.{length-map}
use Rattle.std.proofs.lemmas.List.Elements.{recursion_from_All}
use Rattle.csdf_model.specs.Graph.{actor_view, phases_of}
use Rattle.csdf_model.specs.Kernels.{is_source_kernel}
use Rattle.csdf_model.specs.WellFormed as model
use Rattle.csdf_core.specs.declared.side.Side.TheVariants.{Input}
use Rattle.csdf_core.specs.Phases.{HasPhases}
use Rattle.csdf_core.specs.PlanInside.{channel_in}
use Rattle.csdf_core.proofs.PhaseLemmas.{phases_at, some_phases, few_phases}
use Rattle.csdf_core.proofs.PlanLemmas.{seen_at}
use Rattle.csdf_core.proofs.OwnChannels.{ends_within}
use Rattle.csdf_core.proofs.planned.planned_actor.Goals as goal
use Rattle.csdf_core.proofs.planned.planned_actor.Goals.{After-index-actors-actor}

module _ (c : After-index-actors-actor) where
  within : c.args.actor < length c.actors.result.now
  within = omega (arith, c.requires.actor, length-map c.actors.result.now actor_view, ap length c.actors.ensures.value)

  value : c.index-actors-actor.result.phases ≡ phases_of c.args.graph.now.actors c.args.actor
  value = seen_at actor_view (λ a. a.phases) c.actors.result.now c.args.graph.now.actors c.actors.ensures.value c.args.actor _ 0 within
      c.index-actors-actor.is ∙ phases_at c.args.graph.now.actors c.args.actor c.requires.actor

  phases : HasPhases (map channel_in c.args.channels.now) c.args.actor c.index-actors-actor.result.phases
  phases = subst (HasPhases (map channel_in c.args.channels.now) c.args.actor) (sym value) (c.requires.channels.phases c.args.actor)

pub planned_ends-requires-clause-phases : goal.planned_ends-requires-clause-phases
planned_ends-requires-clause-phases c = phases (goal.at.planned_ends-requires-clause-phases c).After-index-actors-actor

pub planned_ends-requires-2-clause-phases : goal.planned_ends-requires-2-clause-phases
planned_ends-requires-2-clause-phases c = phases (goal.at.planned_ends-requires-2-clause-phases c).After-index-actors-actor

pub first_own-requires-clause-within : goal.first_own-requires-clause-within
first_own-requires-clause-within c = λ k d lt.
    (let w = ends_within Input (map channel_in c.args.channels.now) c.args.actor c.inputs-inputs.result.now
    (c.inputs-inputs.ensures.value ∙ c.requires.channels.inputs c.args.actor) k d lt in
    omega (arith, w, length-map c.args.channels.now channel_in))

pub returns-clause-actor : goal.returns-clause-actor
returns-clause-actor c =
    let at : After-index-actors-actor = (goal.at.returns-clause-actor c).After-index-actors-actor in
    let all = recursion_from_All model.IsActor c.args.graph.now.actors c.actors.ensures.well_formed.fitting.actors in
    record {
      input = c.in_ok-planned_ends.ensures;
      output = c.in_ok-planned_ends-2.ensures;
      phases = phases at;
      some_phase = subst (λ n. 1 ≤ n) (sym (value at)) (some_phases c.args.graph.now.actors c.args.actor c.requires.actor all);
      few_phases = subst (λ n. n ≤ 16) (sym (value at)) (few_phases c.args.graph.now.actors c.args.actor c.requires.actor all);
      own = c.first_own.ensures;
    }

pub returns-clause-source : goal.returns-clause-source
returns-clause-source c =
    c.is_source-is_source.ensures
    ∙ seen_at actor_view (λ a. is_source_kernel a.kernel) c.actors.result.now c.args.graph.now.actors c.actors.ensures.value c.args.actor _ false
    (within (goal.at.returns-clause-source c).After-index-actors-actor) c.index-actors-actor.is
