use Rattle.std.proofs.Common.{subst}
use Rattle.csdf_core.specs.Phases.{HasPhases}
use Rattle.csdf_core.proofs.OwnPlaces.{placed_stays}
use Rattle.csdf_core.proofs.firing_core.Core.turn_own.Goals as goal

pub returns-then-phases-eq1-clause-placed : goal.returns-then-phases-eq1-clause-placed
returns-then-phases-eq1-clause-placed c =
    let has : HasPhases c.args.self.now.plan.channels c.args.actor 1 =
    rw (← c.self.view_is) (subst (HasPhases c.self.inside.plan.channels c.args.actor) c.if-phases-eq1.true c.phases.ensures.phases) in
    placed_stays c.args.self.now.plan.channels c.args.actor c.args.other.firing c.args.turn.firing c.args.own.now.places has c.requires.placed
