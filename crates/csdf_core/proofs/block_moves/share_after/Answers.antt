use Rattle.std.proofs.Common.{◌+◌, subst}
use Rattle.csdf_core.specs.Phases.{HasPhases}
use Rattle.csdf_core.proofs.Shares.{one_in_phase, share_stays}
use Rattle.csdf_core.proofs.block_moves.share_after.Goals as goal

pub returns-then-phases-eq1-clause-in_phase : goal.returns-then-phases-eq1-clause-in_phase
returns-then-phases-eq1-clause-in_phase c =
    one_in_phase c.args.plan.now.channels c.args.actor (c.args.turn.firing + 1)
    (subst (HasPhases c.args.plan.now.channels c.args.actor) c.if-phases-eq1.true c.requires.phases)

pub returns-then-phases-eq1-clause-share : goal.returns-then-phases-eq1-clause-share
returns-then-phases-eq1-clause-share c =
    share_stays c.args.plan.now.channels c.args.actor c.args.channel c.args.turn.firing (c.args.turn.firing + 1)
    c.args.share.all c.args.share.from c.args.share.own
    (subst (HasPhases c.args.plan.now.channels c.args.actor) c.if-phases-eq1.true c.requires.phases)
    c.requires.channel c.requires.own c.requires.share
