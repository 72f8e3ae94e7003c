use Rattle.std.proofs.Common.{◌≡◌, ℕ, List, length, replicate, refl, arith}
use Rattle.std.specs.Prelude.{ℤ, pos}
use Rattle.std.proofs.lemmas.List.{length-replicate}
use Rattle.csdf_core.specs.Blocks.{gifts_of}
use Rattle.csdf_core.specs.Engine.{CanFire}
use Rattle.csdf_core.specs.Inside.{now_in}
use Rattle.csdf_core.specs.Plan.{Plan}
use Rattle.csdf_core.specs.Step.{count}
use Rattle.csdf_core.proofs.BlockMachines.{machine}
use Rattle.csdf_core.proofs.Known.{IsKnown, known}
use Rattle.csdf_core.proofs.firing_core.Core.keeps_within.Goals as goal
use Rattle.csdf_core.proofs.firing_core.Core.keeps_within.Goals.{After-limit-limit}

module _ (c : After-limit-limit) where
  abbrev plan : Plan
  plan = c.self.inside.plan

  abbrev k : ℕ
  k = count (now_in c.self.inside) c.args.actor

  abbrev some : List ℤ
  some = replicate (gifts_of plan.channels c.args.actor k c.args.n) (pos 0)

  can : CanFire plan (now_in c.self.inside) c.args.actor c.args.n
  can = rw (← c.self.view_is) at c.requires.can

  pub told : IsKnown plan c.args.actor k c.args.n some (machine c.self.inside)
  told =
      let len : length some ≡ gifts_of plan.channels c.args.actor k c.args.n = length-replicate _ _ in
      known plan c.args.actor (c.gives_few.ensures c.args.actor) c.args.n some (machine c.self.inside) (record { sound = c.self.invariant.sound; chains = refl })
      (can some len) len

pub returns-clause-few : goal.returns-clause-few
returns-clause-few c =
    let at : After-limit-limit = (goal.at.returns-clause-few c).After-limit-limit in
    let t = (told at).limit in
    rw (← c.self.view_is) (omega (arith, t, c.limit-limit.ensures.value, c.limit-limit.ensures.small))

pub returns-clause-supply : goal.returns-clause-supply
returns-clause-supply c =
    let at : After-limit-limit = (goal.at.returns-clause-supply c).After-limit-limit in
    rw (← c.self.view_is) (told at).supply
