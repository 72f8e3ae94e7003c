use Rattle.std.proofs.Common.{map, arith}
use Rattle.std.proofs.lemmas.List.{length-map}
use Rattle.csdf_model.specs.Graph.{channel_view}
use Rattle.csdf_analysis.proofs.MostLemmas.{given_next, given_small}
use Rattle.csdf_analysis.proofs.most.given_by.Goals as goal

pub overflow_add-given : goal.overflow_add-given
overflow_add-given c =
    let len = length-map c.args.channels.now channel_view in
    let next = given_next c.args.channels.now c.args.actor c.args.firings c.loop-channel.channel-index c.channel-item.result c.loop-channel-test.true
    c.channel-item.is in
    let all = given_small (map channel_view c.args.channels.now) c.args.actor c.args.firings c.requires.rates (omega (arith, len, c.requires.few)) in
    omega (arith, next, all, c.loop-channel.invariant, c.given_to-given.ensures)
