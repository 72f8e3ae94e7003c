use Rattle.std.proofs.lemmas.Grind.{common_steps}
use Rattle.std.proofs.Common.{ap, ◌∙◌, arith}
use Rattle.std.specs.Prelude.{find, not}
use Rattle.csdf_core.specs.Ports.{closed_at}
use Rattle.csdf_core.proofs.PortLemmas.{find_here, find_none, first_closed}
use Rattle.csdf_core.proofs.readiness.first_closed.Goals as goal

pub returns-then-not-opens-channel : goal.returns-then-not-opens-channel
returns-then-not-opens-channel c =
    find_here (closed_at c.args.opens.now) c.outputs-outputs.result.now c.loop-channel.channel-index 0 _ c.loop-channel-test.true
    (ap not c.if-not-opens-channel.true) c.loop-channel.invariant
    ∙ ap (find (closed_at c.args.opens.now)) c.outputs-outputs.ensures.value
    ∙ first_closed c.args.actor c.args.plan.now.channels c.args.opens.now c.requires.same

pub returns : goal.returns
returns c =
    find_none (closed_at c.args.opens.now) c.outputs-outputs.result.now c.loop-channel.channel-index _ c.loop-channel-test.false c.loop-channel.invariant
    ∙ ap (find (closed_at c.args.opens.now)) c.outputs-outputs.ensures.value
    ∙ first_closed c.args.actor c.args.plan.now.channels c.args.opens.now c.requires.same

pub loop-channel-preserved : goal.loop-channel-preserved
loop-channel-preserved c = grind (arith, common_steps)
