use Rattle.std.proofs.Common.{◌∙◌, ap, arith, length, map, refl}
use Rattle.csdf_model.specs.Graph.{Graph, channel_view}
use Rattle.csdf_analysis.proofs.MostLemmas.{held_in, most_in}
use Rattle.csdf_analysis.proofs.most.most_firings.Goals as goal

pub lower_until_fitting-requires-clause-held : goal.lower_until_fitting-requires-clause-held
lower_until_fitting-requires-clause-held c =
    held_in c.args.accepted.now c.args.periods (length c.deref_mut.result.now) c.args.tokens.now c.in_ok-most.most.items c.deref_mut.result.now
    c.capacities.result.now (map channel_view c.channels.result.now) c.capacities.ensures.accepted c.in_ok-most.ensures c.deref_mut.ensures.value
    (c.channels.ensures.value ∙ ap (λ (g : Graph). g.channels) c.graph.ensures.graph) c.capacities.ensures.value refl

pub returns : goal.returns
returns c =
    most_in c.args.accepted.now c.args.periods c.args.tokens.now c.in_ok-most.most.items c.deref_mut.result.now c.lower_until_fitting.new.most
    c.capacities.result.now (map channel_view c.channels.result.now) c.in_ok-most.most.len c.in_ok-most.ensures
    c.deref_mut.ensures.value (c.channels.ensures.value ∙ ap (λ (g : Graph). g.channels) c.graph.ensures.graph) c.capacities.ensures.value
    (omega (arith, c.in_ok-most.most.ok.0)) c.lower_until_fitting.auto.most
    c.lower_until_fitting.ensures.within c.lower_until_fitting.ensures.kept c.lower_until_fitting.ensures.fits
