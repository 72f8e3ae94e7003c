use Rattle.std.proofs.Common.{arith}
use Rattle.std.proofs.lemmas.Grind.{common_steps}
use Rattle.csdf_core.specs.Ports.{take_at}
use Rattle.csdf_core.proofs.PortLemmas.{sum_done}
use Rattle.csdf_core.proofs.gathering.taken_before.Goals as goal

pub returns : goal.returns
returns c =
    sum_done (take_at c.args.plan.now.channels c.args.turn.firing) c.args.numbers.now c.loop-channel.channel-index c.loop-channel.sum
    c.loop-channel-test.false c.loop-channel.invariant.told

pub loop-channel-preserved : goal.loop-channel-preserved
loop-channel-preserved c = grind (arith, common_steps)
