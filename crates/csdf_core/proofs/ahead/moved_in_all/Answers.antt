use Rattle.std.proofs.lemmas.Grind.{common_steps}
use Rattle.std.proofs.Common.{ap, ◌∙◌, arith}
use Rattle.std.specs.Prelude.{sum_by}
use Rattle.csdf_core.specs.Sides.{amounts_at}
use Rattle.csdf_core.proofs.PortLemmas.{sum_done}
use Rattle.csdf_core.proofs.SideLemmas.{moved_sum}
use Rattle.csdf_core.proofs.ahead.moved_in_all.Goals as goal

pub returns : goal.returns
returns c =
    sum_done (amounts_at c.args.side c.args.plan.now.channels c.args.firing c.args.n) c.ends-ends.result.now c.loop-channel.channel-index
    c.loop-channel.sum c.loop-channel-test.false c.loop-channel.invariant.told
    ∙ ap (sum_by (amounts_at c.args.side c.args.plan.now.channels c.args.firing c.args.n)) c.ends-ends.ensures.value
    ∙ moved_sum c.args.side c.args.plan.now.channels c.args.actor c.args.firing c.args.n

pub loop-channel-preserved : goal.loop-channel-preserved
loop-channel-preserved c = grind (arith, common_steps)
