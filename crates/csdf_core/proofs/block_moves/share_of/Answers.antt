use Rattle.csdf_core.proofs.Shares.{is_share}
use Rattle.csdf_core.proofs.block_moves.share_of.Goals as goal

pub returns-clause-share : goal.returns-clause-share
returns-clause-share c =
    is_share c.args.plan.now.channels c.args.actor c.args.channel c.args.turn.firing c.moved.result c.given_before.result c.gives.result
    c.requires.channel c.requires.own c.moved.ensures.value c.given_before.ensures.value c.gives.ensures.value
