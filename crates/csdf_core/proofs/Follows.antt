-- A core's call follows the step.
use Rattle.std.proofs.Common.{◌≡◌, ℕ, ◌≤◌, max, List, [], ◌∷◌, length, map, refl, ap, subst, ◌∙◌, sym, arith, Option, Some, None}
use Rattle.std.specs.Prelude.{ℤ, Ok, Err, IfSome}
use Rattle.csdf_pool.specs.Pool.{held_tokens}
use Rattle.csdf_core.specs.Moves.{Move}
use Rattle.csdf_core.specs.declared.refusal.Refusal.{Refusal}
use Rattle.csdf_core.specs.State.{present}
use Rattle.csdf_core.specs.Step.{refusal, answer, accepted, reply_by, state_by}
use Rattle.csdf_core.specs.Shows.{View, Shows, Follows, raised, ArePeaks, AreSharedOut}
use Rattle.csdf_core.specs.Ready.{IsFit}
use Rattle.csdf_core.specs.Next.{next}
use Rattle.csdf_core.proofs.Next.{present_accepted, lawful_accepted}

-- peaks that are no less than the lengths stay
pub raised_same : (peaks : List ℕ) (tokens : List (List ℤ)) → length peaks ≡ length tokens → ArePeaks peaks tokens → raised peaks tokens ≡ peaks
raised_same [] tokens e h = refl
raised_same (p ∷ peaks) [] e h = absurd (omega arith)
raised_same (p ∷ peaks) (t ∷ tokens) e h =
    let here : max p (length t) ≡ p = omega (arith, h.0) in
    let rest = raised_same peaks tokens (omega arith) h.1 in cc

pub raised_are : (peaks : List ℕ) (tokens : List (List ℤ)) → ArePeaks (raised peaks tokens) tokens
raised_are [] tokens = tt
raised_are (p ∷ peaks) [] = tt
raised_are (p ∷ peaks) (t ∷ tokens) = ((let h : length t ≤ max p (length t) = omega arith in h), raised_are peaks tokens)

pub length-raised : (peaks : List ℕ) (tokens : List (List ℤ)) → length peaks ≡ length tokens → length (raised peaks tokens) ≡ length tokens
length-raised [] [] e = refl
length-raised [] (t ∷ tokens) e = absurd (omega arith)
length-raised (p ∷ peaks) [] e = absurd (omega arith)
length-raised (p ∷ peaks) (t ∷ tokens) e = let rest = length-raised peaks tokens (omega arith) in omega (arith, rest)

pub follows_refused : (v : View) (m : Move) (e : Refusal) → refusal v.plan v.now m ≡ Some e → raised v.peaks v.now.tokens ≡ v.peaks
    → AreSharedOut v.plan v.pool → Follows v v m (Err e)
follows_refused v m e why peaks cells = record {
  plan = refl;
  reply_is = λ s shown.
      let at : refusal v.plan (present s) m ≡ Some e = ap (λ p. refusal v.plan p m) (sym shown.same) ∙ why in
      sym (ap (λ o. reply_by o (answer v.plan (present s) m)) at);
  shows = λ s shown.
      let at : refusal v.plan (present s) m ≡ Some e = ap (λ p. refusal v.plan p m) (sym shown.same) ∙ why in
      subst (λ (o : Option Refusal). Shows v (state_by o (accepted v.plan s m) s)) (sym at) shown;
  peaks = sym peaks;
  cells = cells;
}

-- the same of what a test answers
pub follows_told : (v : View) (m : Move) (o : Option Refusal) → o ≡ refusal v.plan v.now m → raised v.peaks v.now.tokens ≡ v.peaks → AreSharedOut v.plan v.pool
    → IfSome o (λ why. Follows v v m (Err why))
follows_told v m None is peaks cells = tt
follows_told v m (Some why) is peaks cells = follows_refused v m why (sym is) peaks cells

pub follows_accepted : (old new : View) (m : Move) (ts : List ℤ) → new.plan ≡ old.plan → refusal old.plan old.now m ≡ None → ts ≡ answer old.plan old.now m
    → new.now ≡ next old.plan old.now m → IsFit old.plan old.now → map held_tokens new.pool.chains ≡ new.now.tokens → AreSharedOut new.plan new.pool
    → new.peaks ≡ raised old.peaks new.now.tokens → Follows old new m (Ok ts)
follows_accepted old new m ts same why handed now fit chains cells peaks = record {
  plan = same;
  reply_is = λ s shown.
      let at : refusal old.plan (present s) m ≡ None = ap (λ p. refusal old.plan p m) (sym shown.same) ∙ why in
      ap Ok (handed ∙ ap (λ p. answer old.plan p m) shown.same) ∙ sym (ap (λ o. reply_by o (answer old.plan (present s) m)) at);
  shows = λ s shown.
      let at : refusal old.plan (present s) m ≡ None = ap (λ p. refusal old.plan p m) (sym shown.same) ∙ why in
      let fit_s : IsFit old.plan (present s) = subst (IsFit old.plan) shown.same fit in
      let after : Shows new (accepted old.plan s m) = record {
        same = now ∙ ap (λ p. next old.plan p m) shown.same ∙ sym (present_accepted old.plan s m shown.lawful);
        lawful = lawful_accepted old.plan s m fit_s at shown.lawful;
        chains = chains;
        cells = cells;
      } in
      subst (λ (o : Option Refusal). Shows new (state_by o (accepted old.plan s m) s)) (sym at) after;
  peaks = peaks;
  cells = cells;
}
