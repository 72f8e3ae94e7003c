use Rattle.std.proofs.Common.{◌≡◌, ◌≤◌, get_or, length, ap, sym, ◌∙◌, arith}
use Rattle.csdf_core.specs.Rows.{gift}
use Rattle.csdf_core.proofs.Totals.{gift-given}
use Rattle.csdf_core.proofs.CoreLemmas.{none_gifted}
use Rattle.csdf_core.proofs.firing_core.Core.gives.Goals as goal
use Rattle.csdf_core.proofs.firing_core.Core.gives.Goals.{After-actors}

-- where there is no such actor
module _ (c : After-actors) where
  none : length c.self.inside.plan.sources ≤ c.args.actor → 0 ≡ gift c.args.actor (get_or c.self.inside.nexts.counts.items c.args.actor 0) c.self.inside.plan.channels
  none past = sym (none_gifted (length c.self.inside.plan.sources) c.args.actor (get_or c.self.inside.nexts.counts.items c.args.actor 0)
      c.self.inside.plan.channels c.self.invariant.sound.playable.ends past)

pub returns-then-actor-actors-clause-value : goal.returns-then-actor-actors-clause-value
returns-then-actor-actors-clause-value c =
    rw (← c.self.view_is) (none (goal.at.returns-then-actor-actors-clause-value c).After-actors (omega arith)
    ∙ gift-given c.self.inside.plan c.args.actor (get_or c.self.inside.nexts.counts.items c.args.actor 0))

pub returns-then-actor-actors-clause-sum : goal.returns-then-actor-actors-clause-sum
returns-then-actor-actors-clause-sum c = rw (← c.self.view_is) (none (goal.at.returns-then-actor-actors-clause-sum c).After-actors (omega arith))

pub returns-clause-value : goal.returns-clause-value
returns-clause-value c =
    c.moved.ensures.value ∙ ap (λ k. gift c.args.actor k c.self.inside.plan.channels) c.turn.ensures.firing
    ∙ rw (← c.self.view_is) (gift-given c.self.inside.plan c.args.actor (get_or c.self.inside.nexts.counts.items c.args.actor 0))
