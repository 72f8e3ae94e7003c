use Rattle.std.proofs.Common.{subst}
use Rattle.csdf_core.specs.Phases.{HasPhases}
use Rattle.csdf_core.proofs.BlockReads.{same_slot}
use Rattle.csdf_core.proofs.gathering.slot_after.Goals as goal

pub returns-then-phases-eq1-clause-slot : goal.returns-then-phases-eq1-clause-slot
returns-then-phases-eq1-clause-slot c =
    same_slot c.args.plan.now.channels c.args.actor
    (subst (HasPhases c.args.plan.now.channels c.args.actor) c.if-phases-eq1.true c.phases.ensures.phases) c.args.place c.args.other.firing
    c.args.turn.firing _ _ _ c.requires.place c.requires.slot
