use Rattle.std.proofs.Common.{arith}
use Rattle.csdf_floor.proofs.Exacts.{gives_next, gives_no_more}
use Rattle.csdf_stream.proofs.lengths.tokens_given.Goals as goal

pub loop-channel-preserved : goal.loop-channel-preserved
loop-channel-preserved c =
    let next = gives_next c.args.channels.now c.loop-channel.channel-index c.args.actor c.args.firings c.channel-item.result c.loop-channel-test.true c.channel-item.is in
    let told = c.given_to.ensures in
    let so_far = c.loop-channel.invariant.so_far in
    let sum = c.saturating_add-sum.ensures in
    record { small = omega (arith, sum); so_far = omega arith }

pub returns : goal.returns
returns c =
    let none = gives_no_more c.args.channels.now c.loop-channel.channel-index c.args.actor c.args.firings c.loop-channel-test.false in
    let so_far = c.loop-channel.invariant.so_far in
    let small = c.loop-channel.invariant.small in
    omega arith
