use Rattle.std.proofs.Common.{◌<◌, length, get_or, ◌∙◌, arith}
use Rattle.std.proofs.lemmas.List.{get_or_default}
use Rattle.csdf_analysis.proofs.StallLemmas.{neither_short_nor_full}
use Rattle.csdf_analysis.proofs.waits.wait_of.Goals as goal

pub returns-in_err-number : goal.returns-in_err-number
returns-in_err-number c =
    let here : c.args.actor < length c.args.run.now.counts.items = omega (arith, c.requires.actor, c.requires.run.at.each_actor) in
    let count = c.index.ensures ∙ get_or_default _ _ c.index.result.now 0 here in
    let left : get_or c.args.run.now.counts.items c.args.actor 0 < get_or c.args.net.now.firings c.args.actor 0 =
    omega (arith, count, c.firings.ensures, c.if-index-firings.false) in
    absurd (c.requires.stalled c.args.actor (neither_short_nor_full _ _ _ _ c.args.actor here left c.in_default.ensures c.in_err-number.ensures))
