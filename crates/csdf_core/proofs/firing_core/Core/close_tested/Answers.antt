use Rattle.std.proofs.Common.{◌≡◌, None, sym, refl}
use Rattle.csdf_core.specs.State.{Present}
use Rattle.csdf_core.specs.Moves.{Close}
use Rattle.csdf_core.specs.Step.{refusal}
use Rattle.csdf_core.specs.Inside.{now_in}
use Rattle.csdf_core.proofs.Follows.{follows_accepted}
use Rattle.csdf_core.proofs.SoundLemmas.{sound_closed}
use Rattle.csdf_core.proofs.Peaceful.{peaks_stay}
use Rattle.csdf_core.proofs.firing_core.Core.close_tested.Goals as goal

pub invariant_of-self : goal.invariant_of-self
invariant_of-self c =
    let p : Present = now_in c.self.inside in
    let none : refusal c.self.inside.plan p (Close c.args.channel) ≡ None = rw (← c.self.view_is) at c.requires in
    record {
      phases = c.self.invariant.phases;
      sound = sound_closed c.self.inside.plan p c.self.inside.peaks.items c.self.inside.sums.items
          c.self.inside.started c.self.inside.reserved c.self.inside.pool
          c.args.channel c.self.invariant.sound none;
    }

pub returns-clause-step : goal.returns-clause-step
returns-clause-step c =
    let p : Present = now_in c.self.inside in
    let none : refusal c.self.inside.plan p (Close c.args.channel) ≡ None = rw (← c.self.view_is) at c.requires in
    rw (← c.self.view_is) (follows_accepted _ _ (Close c.args.channel) _ refl none refl refl c.self.invariant.sound.fit refl c.self.invariant.sound.cells
    (sym (peaks_stay _ _ _ _ _ _ _ c.self.invariant.sound)))
