use Rattle.std.proofs.Common.{◌==◌, ◌+◌, ◌<◌, length, get_or, refl, ap, sym, subst, arith}
use Rattle.csdf_model.specs.Graph.{Channel, phases_of}
use Rattle.csdf_analysis.proofs.FitLemmas.{output_end}
use Rattle.csdf_analysis.proofs.FiringLemmas.{still, one_changed, all_changed, there}
use Rattle.csdf_analysis.proofs.run.put.Goals as goal

pub production-requires-clause-phase : goal.production-requires-clause-phase
production-requires-clause-phase c = λ d at.
    subst (λ b. c.args.phase < phases_of c.args.net.now.actors b)
    (sym (output_end _ c.outputs-number-items.result.now c.args.actor c.loop-number.number-index d c.outputs-number-items.ensures.value
    c.loop-number-test.true at)) c.requires.phase

pub overflow_add-lengths : goal.overflow_add-lengths
overflow_add-lengths c =
    let numbers = c.outputs-number-items.result.now in
    let k = c.loop-number.number-index in
    let d = there c.args.net.now.channels (get_or numbers k 0) (c.outputs-number-items.ensures.within k 0 c.loop-number-test.true) in
    let small = c.requires.small (get_or numbers k 0) (d.0) d.1 in
    let same = still _ (λ (e : Channel). e.from == c.args.actor) _ numbers _ _ k c.outputs-number-items.ensures.value c.loop-number-test.true
    c.loop-number.invariant in
    omega (arith, small, same, c.production.ensures.small)

pub loop-number-preserved : goal.loop-number-preserved
loop-number-preserved c =
    let numbers = c.outputs-number-items.result.now in
    let k = c.loop-number.number-index in
    let within : get_or numbers k 0 < length c.loop-number.lengths =
    omega (arith, c.outputs-number-items.ensures.within k 0 c.loop-number-test.true, c.requires.each_channel, c.loop-number.auto.lengths) in
    one_changed _ (λ (e : Channel). e.from == c.args.actor) _ numbers _ c.loop-number.lengths _ k _ c.outputs-number-items.ensures.value c.loop-number-test.true
    within refl
    (λ d at. ap (λ r. get_or c.loop-number.lengths (get_or numbers k 0) 0 + r) (c.production.ensures.value d at)) c.loop-number.invariant

pub returns : goal.returns
returns c =
    all_changed _ (λ (e : Channel). e.from == c.args.actor) _ c.outputs-number-items.result.now _ _ c.loop-number.number-index
    c.outputs-number-items.ensures.value c.loop-number-test.false c.loop-number.auto.number-index-end c.loop-number.invariant
