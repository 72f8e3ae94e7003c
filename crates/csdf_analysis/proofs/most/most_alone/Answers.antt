use Rattle.std.proofs.Common.{◌*◌, ◌∙◌, sym, ap}
use Rattle.csdf_model.specs.declared.parts.Actor.{Actor}
use Rattle.csdf_model.specs.Graph.{Graph}
use Rattle.csdf_model.specs.Kernels.{is_source_kernel}
use Rattle.csdf_analysis.proofs.MostLemmas.{alone_other, in_periods, source_here}
use Rattle.csdf_analysis.proofs.most.most_alone.Goals as goal

pub returns-else-is_source : goal.returns-else-is_source
returns-else-is_source c =
    alone_other c.args.accepted.now c.args.periods c.args.tokens.now c.args.actor (c.args.periods * c.index.result.now)
    (source_here c.actors.result.now c.args.accepted.now.graph.actors c.args.actor c.index-actors-actor.result
    (c.actors.ensures.value ∙ ap (λ (g : Graph). g.actors) c.graph-graph.ensures.graph) c.requires.exists c.index-actors-actor.is
    ∙ ap (λ (y : Actor). is_source_kernel y.kernel) c.index-actors-actor.is
    ∙ sym c.is_source.ensures
    ∙ c.if-is_source.false)
    (in_periods c.args.accepted.now c.args.periods c.args.actor c.index.result.now c.vector.result.now.q.items c.vector.ensures.accepted c.requires.exists
    c.vector.ensures.firings c.index.ensures)
