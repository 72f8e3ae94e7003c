use Rattle.std.proofs.Common.{◌≡◌, ℕ, ap, sym, ◌∙◌, refl, Option, Some, None, false}
use Rattle.std.specs.Prelude.{is_some}
use Rattle.csdf_core.specs.Rows.{first, is_closed}
use Rattle.csdf_core.proofs.Kept.{is_stage_true}
use Rattle.csdf_core.proofs.firing_core.Core.is_ready.Goals as goal

none_of : (o : Option ℕ) → is_some o ≡ false → o ≡ None
none_of None e = refl
none_of (Some x) e = absurd (cc)

pub returns-clause-idle : goal.returns-clause-idle
returns-clause-idle c = λ _. sym c.stage.ensures ∙ is_stage_true _ _ (sym c.if-not-is_at.ensures)

pub returns-clause-opens : goal.returns-clause-opens
returns-clause-opens c =
    rw (← c.self.view_is)
    (λ _. sym (ap (first (is_closed c.args.actor) c.self.inside.plan.channels) c.deref.ensures.value) ∙ sym c.first_closed.ensures
    ∙ none_of c.first_closed.result (sym c.is_some.ensures ∙ c.if-is_some.false))
