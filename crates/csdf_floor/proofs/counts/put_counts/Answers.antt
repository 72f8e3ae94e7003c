use Rattle.std.proofs.lemmas.Grind.{common_steps}
use Rattle.std.proofs.Common.{map, ap, ◌∙◌, arith}
use Rattle.csdf_core.specs.Ports.{give_at}
use Rattle.csdf_floor.proofs.Loops.{all_done}
use Rattle.csdf_floor.proofs.counts.put_counts.Goals as goal

pub returns-clause-value : goal.returns-clause-value
returns-clause-value c =
    all_done (give_at c.args.core.now.plan.channels c.args.turn.firing) c.outputs-channel-items.result.now c.loop-channel.channel-index
    c.loop-channel.counts.items c.loop-channel-test.false c.loop-channel.invariant.counts
    ∙ ap (map (give_at c.args.core.now.plan.channels c.args.turn.firing)) c.outputs-channel-items.ensures.value

pub loop-channel-preserved : goal.loop-channel-preserved
loop-channel-preserved c = grind (arith, common_steps)
