use Rattle.std.proofs.lemmas.Grind.{common_steps}
use Rattle.std.proofs.Common.{rules, ◌≡◌, ◌+◌, ◌-◌, get_or, None, ap, refl, arith, sym, ℕ}
use Rattle.csdf_core.specs.Plan.{Plan}
use Rattle.csdf_core.specs.State.{Present}
use Rattle.csdf_core.specs.Moves.{Begin}
use Rattle.csdf_core.specs.Rows.{need, gift}
use Rattle.csdf_core.specs.Step.{refusal}
use Rattle.csdf_core.specs.Inside.{now_in}
use Rattle.csdf_core.proofs.Follows.{follows_accepted}
use Rattle.csdf_core.proofs.SoundLemmas.{sound_begun, few_started}
use Rattle.csdf_core.proofs.Peaceful.{peaks_stay}
use Rattle.csdf_core.proofs.firing_core.Core.begin_tested.Goals as goal

pub overflow_add-self : goal.overflow_add-self
overflow_add-self c = omega (arith, few_started _ _ _ _ _ _ _ c.self.invariant.sound)

pub invariant_of-self : goal.invariant_of-self
invariant_of-self c =
    let p : Present = now_in c.self.inside in
    let plan : Plan = c.self.inside.plan in
    let a : ℕ = c.args.actor in
    let none : refusal plan p (Begin a) ≡ None = rw (← c.self.view_is) at c.requires in
    let more : c.saturating_sub.result ≡ gift a (get_or c.self.inside.nexts.counts.items a 0) plan.channels - need a (get_or c.self.inside.nexts.counts.items a 0)
    plan.channels =
    (let g = rw (← c.self.view_is) at c.gives-gift.ensures.sum in let n = rw (← c.self.view_is) at c.need-need.ensures.value in
    rw (c.saturating_sub.ensures, g, n) refl) in
    record {
      phases = c.self.invariant.phases;
      sound = sound_begun plan p c.self.inside.peaks.items c.self.inside.sums.items c.self.inside.started c.self.inside.reserved c.self.inside.pool a _ _
          c.self.invariant.sound none refl (ap (λ x. c.self.inside.reserved + x) more);
    }

pub returns-clause-step : goal.returns-clause-step
returns-clause-step c =
    let p : Present = now_in c.self.inside in
    let plan : Plan = c.self.inside.plan in
    let a : ℕ = c.args.actor in
    let none : refusal plan p (Begin a) ≡ None = rw (← c.self.view_is) at c.requires in
    rw (← c.self.view_is) (follows_accepted _ _ (Begin a) _ refl none refl refl c.self.invariant.sound.fit refl c.self.invariant.sound.cells
    (sym (peaks_stay _ _ _ _ _ _ _ c.self.invariant.sound)))

pub returns-clause-cells : goal.returns-clause-cells
returns-clause-cells c = search rules

pub index_mut-requires : goal.index_mut-requires
index_mut-requires c = grind (arith, common_steps)
