use Rattle.std.proofs.Common.{◌∙◌, ap}
use Rattle.csdf_crew.proofs.HeavyLemmas.{count_as}
use Rattle.csdf_crew.proofs.heavy.gains_by_workers.Goals as goal

pub returns : goal.returns
returns c =
    count_as _ _ _ _ _ _ c.heavy_count.result c.heavy_count.ensures (c.actors.ensures.value ∙ ap (λ g. g.actors) c.graph-graph.ensures.graph)
    (c.channels.ensures.value ∙ ap (λ g. g.channels) c.graph-graph.ensures.graph) c.capacities.ensures.value
