use Rattle.std.proofs.Common.{List, replicate, refl}
use Rattle.std.specs.Prelude.{ℤ, pos}
use Rattle.std.proofs.lemmas.List.{length-replicate}
use Rattle.csdf_core.specs.Blocks.{gifts_of}
use Rattle.csdf_core.specs.Inside.{now_in}
use Rattle.csdf_core.specs.Step.{count}
use Rattle.csdf_core.proofs.BlockMachines.{machine}
use Rattle.csdf_core.proofs.Known.{find_ins, known}
use Rattle.csdf_core.proofs.firing_core.Core.reads.Goals as goal

pub returns-clause-read : goal.returns-clause-read
returns-clause-read c =
    rw (← c.self.view_is)
    (λ can v len. (known c.self.inside.plan c.args.actor (c.gives_few.ensures c.args.actor) c.args.n v (machine c.self.inside)
    (record { sound = c.self.invariant.sound; chains = refl }) (can v len) len).reads)

pub returns-clause-found : goal.returns-clause-found
returns-clause-found c =
    rw (← c.self.view_is)
    (λ can i less.
    let k = count (now_in c.self.inside) c.args.actor in
    let some : List ℤ = replicate (gifts_of c.self.inside.plan.channels c.args.actor k c.args.n) (pos 0) in
    find_ins c.self.inside.plan c.args.actor k c.args.n some (machine c.self.inside)
    (known c.self.inside.plan c.args.actor (c.gives_few.ensures c.args.actor) c.args.n some (machine c.self.inside)
    (record { sound = c.self.invariant.sound; chains = refl }) (can some (length-replicate _ _)) (length-replicate _ _)) i less)
