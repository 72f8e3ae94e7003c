use Rattle.std.proofs.Common.{◌==◌, ◌-◌, ◌<◌, length, get_or, refl, ap, sym, subst, arith}
use Rattle.csdf_model.specs.Graph.{Channel, phases_of}
use Rattle.csdf_analysis.proofs.FitLemmas.{input_end}
use Rattle.csdf_analysis.proofs.FiringLemmas.{still, one_changed, all_changed, there}
use Rattle.csdf_analysis.proofs.run.take.Goals as goal

pub consumption-requires-clause-phase : goal.consumption-requires-clause-phase
consumption-requires-clause-phase c = λ d at.
    subst (λ b. c.args.phase < phases_of c.args.net.now.actors b)
    (sym (input_end _ c.inputs-number-items.result.now c.args.actor c.loop-number.number-index d c.inputs-number-items.ensures.value c.loop-number-test.true
    at)) c.requires.phase

pub overflow_sub-lengths : goal.overflow_sub-lengths
overflow_sub-lengths c =
    let numbers = c.inputs-number-items.result.now in
    let k = c.loop-number.number-index in
    let is = c.inputs-number-items.ensures.value in
    let d = there c.args.net.now.channels (get_or numbers k 0) (c.inputs-number-items.ensures.within k 0 c.loop-number-test.true) in
    let some = c.requires.enough (get_or numbers k 0) (d.0) d.1 (input_end _ numbers c.args.actor k (d.0) is c.loop-number-test.true d.1) in
    let same = still _ (λ (e : Channel). e.to == c.args.actor) _ numbers _ _ k is c.loop-number-test.true c.loop-number.invariant in
    let rate = c.consumption.ensures.value (d.0) d.1 in
    omega (arith, some, same, rate)

pub loop-number-preserved : goal.loop-number-preserved
loop-number-preserved c =
    let numbers = c.inputs-number-items.result.now in
    let k = c.loop-number.number-index in
    let within : get_or numbers k 0 < length c.loop-number.lengths =
    omega (arith, c.inputs-number-items.ensures.within k 0 c.loop-number-test.true, c.requires.each_channel, c.loop-number.auto.lengths) in
    one_changed _ (λ (e : Channel). e.to == c.args.actor) _ numbers _ c.loop-number.lengths _ k _ c.inputs-number-items.ensures.value c.loop-number-test.true
    within refl
    (λ d at. ap (λ r. get_or c.loop-number.lengths (get_or numbers k 0) 0 - r) (c.consumption.ensures.value d at)) c.loop-number.invariant

pub returns : goal.returns
returns c =
    all_changed _ (λ (e : Channel). e.to == c.args.actor) _ c.inputs-number-items.result.now _ _ c.loop-number.number-index c.inputs-number-items.ensures.value
    c.loop-number-test.false c.loop-number.auto.number-index-end c.loop-number.invariant
