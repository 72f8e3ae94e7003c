use Rattle.std.proofs.Common.{map, arith}
use Rattle.std.proofs.lemmas.List.{length-map}
use Rattle.csdf_model.specs.Graph.{channel_view}
use Rattle.csdf_explain.proofs.DistanceLemmas.{channel_at, crosses_within}
use Rattle.csdf_explain.proofs.WayLemmas.{step_on}
use Rattle.csdf_explain.proofs.way.step.Goals as goal

pub loop-number-preserved : goal.loop-number-preserved
loop-number-preserved c =
    step_on (map channel_view c.args.channels.now) c.args.distances.now c.args.actor c.args.count c.loop-number.number
    (channel_view c.index-channels-number.result) c.nearer.result
    (channel_at c.args.channels.now c.loop-number.number c.index-channels-number.result c.loop-number-test.true c.index-channels-number.is)
    c.nearer.ensures c.in_default.is c.loop-number.invariant

pub returns-clause-none : goal.returns-clause-none
returns-clause-none c = λ none n b step.
    c.loop-number.invariant n b
    (let within = crosses_within (map channel_view c.args.channels.now) n c.args.actor b step.0 in
    let count = length-map c.args.channels.now channel_view in
    omega (arith, within, count, c.loop-number-test.false)) step
