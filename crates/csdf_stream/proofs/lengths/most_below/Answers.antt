use Rattle.std.proofs.Common.{arith, ap, refl, ◌∙◌, ℕ, List, get_or}
use Rattle.csdf_model.specs.Graph.{Channel, Graph}
use Rattle.csdf_floor.specs.Continuing.{given_in}
use Rattle.csdf_run.specs.Totals.{capped}
use Rattle.csdf_stream.proofs.LengthLemmas.{below_all, below_next, below_none, few_of, here_as}
use Rattle.csdf_stream.proofs.lengths.most_below.Goals as goal

pub loop-source-init : goal.loop-source-init
loop-source-init c = below_none c.args.accepted.now c.args.limit c.most_periods-most.result c.args.sources.now c.most_periods-most.ensures.most

pub loop-source-preserved : goal.loop-source-preserved
loop-source-preserved c =
    let i : ℕ = get_or c.args.sources.now c.loop-source.source-index 0 in
    below_next c.args.accepted.now c.args.limit c.loop-source.most c.within-most.result c.loop-source.source-index c.args.sources.now c.loop-source.invariant
    (here_as c.args.accepted.now c.args.limit c.loop-source.most c.within-most.result i c.loop-source.source-index c.tokens_given-tokens.result c.args.sources.now refl
    (c.tokens_given-tokens.ensures
    ∙ ap (λ (cs : List Channel). capped (given_in cs i (get_or c.as_slice-firings.result.now i 0))) (c.channels.ensures.value ∙ ap (λ (x : Graph). x.channels) c.graph-graph.ensures.graph)
    ∙ ap (λ (q : List ℕ). capped (given_in c.args.accepted.now.graph.channels i (get_or q i 0))) (c.as_slice-firings.ensures.value ∙ c.vector.ensures.firings))
    c.within-most.ensures)

pub returns-clause-most : goal.returns-clause-most
returns-clause-most c =
    below_all c.args.accepted.now c.args.limit c.loop-source.most c.loop-source.source-index c.args.sources.now (omega arith) c.loop-source.invariant

pub returns-clause-few : goal.returns-clause-few
returns-clause-few c = λ n le.
    few_of c.args.accepted.now c.args.sources.now c.args.limit c.loop-source.most n c.vector.ensures.accepted
    (below_all c.args.accepted.now c.args.limit c.loop-source.most c.loop-source.source-index c.args.sources.now (omega arith) c.loop-source.invariant) le
