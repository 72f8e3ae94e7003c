use Rattle.std.proofs.Common.{map}
use Rattle.csdf_model.specs.Graph.{channel_view}
use Rattle.csdf_explain.proofs.CircleLemmas.{walk_on}
use Rattle.csdf_explain.proofs.circle.walked.Goals as goal

pub loop-preserved : goal.loop-preserved
loop-preserved c = walk_on (map channel_view c.args.channels.now) c.args.waits.now c.loop.index c.loop.actor c.awaited-actor.result _
    c.loop-test.true c.awaited-actor.ensures c.loop.invariant
