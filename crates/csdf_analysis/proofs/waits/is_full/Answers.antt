use Rattle.std.proofs.Common.{◌<◌, length, ◌∙◌, arith}
use Rattle.std.proofs.lemmas.List.{get_or_default}
use Rattle.csdf_model.specs.Graph.{channel_view}
use Rattle.csdf_analysis.proofs.StallLemmas.{is_full}
use Rattle.csdf_analysis.proofs.waits.is_full.Goals as goal

pub returns-then-channel-actor : goal.returns-then-channel-actor
returns-then-channel-actor c =
    let lt : c.args.number < length c.args.run.now.bounds.items = omega (arith, c.requires.run.at.each_bound, c.requires.exists) in
    let bound = c.index.ensures ∙ get_or_default _ c.args.number c.index.result.now 0 lt in
    is_full _ _ _ c.args.actor c.args.number c.index.result.now c.filled.result (channel_view c.channel.result.now) c.channel.ensures.value
    c.if-channel-actor.true bound c.filled.ensures
