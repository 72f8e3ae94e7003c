use Rattle.std.proofs.Common.{◌<◌, length, ◌∙◌, arith}
use Rattle.std.proofs.lemmas.List.{get_or_default}
use Rattle.csdf_analysis.proofs.RunLemmas.{filled_is, filled_small}
use Rattle.csdf_analysis.proofs.run.Run.filled.Goals as goal

pub overflow_add-result : goal.overflow_add-result
overflow_add-result c =
    let lt : c.args.number < length c.args.self.now.lengths.items = omega (arith, c.requires.run.at.each_length, c.requires.exists) in
    let len = c.index.ensures ∙ get_or_default _ c.args.number c.index.result.now 0 lt in
    let small = filled_small _ _ _ _ c.args.number _ c.index.result.now c.production.result c.channel.ensures.fit c.requires.run.at.within
    c.channel.ensures.value c.requires.run.at.held len c.production.ensures.small in
    omega (arith, small, c.saturating_sub.ensures)

pub returns : goal.returns
returns c =
    let lt : c.args.number < length c.args.self.now.lengths.items = omega (arith, c.requires.run.at.each_length, c.requires.exists) in
    let len = c.index.ensures ∙ get_or_default _ c.args.number c.index.result.now 0 lt in
    λ d at. filled_is _ _ _ _ _ c.args.number _ d c.phase-phase.result c.index.result.now c.own_consumption-own.result _ _ c.channel.ensures.phased
    c.channel.ensures.value c.requires.run.at.held c.phase-phase.ensures.value len
    (c.own_consumption-own.ensures _ c.channel.ensures.value) c.saturating_sub.ensures (c.production.ensures.value _ c.channel.ensures.value) at
