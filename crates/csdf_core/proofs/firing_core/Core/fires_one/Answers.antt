use Rattle.std.proofs.Common.{refl}
use Rattle.csdf_core.proofs.BlockMachines.{machine}
use Rattle.csdf_core.proofs.Finds.{one_fires}
use Rattle.csdf_core.proofs.firing_core.Core.fires_one.Goals as goal

pub returns-clause-can : goal.returns-clause-can
returns-clause-can c =
    rw (← c.self.view_is)
    (one_fires c.self.inside.plan c.args.actor (c.gives_few.ensures c.args.actor) (machine c.self.inside)
    (record { sound = c.self.invariant.sound; chains = refl }))
