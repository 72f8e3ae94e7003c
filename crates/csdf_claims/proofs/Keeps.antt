-- What a place holds and has finished stays where it looks at the board or wins a claim.
use Rattle.std.proofs.Common.{◌≡◌, ℕ, zero, suc, ◌*◌, ◌/◌, ◌<◌, List, [], ◌∷◌, length, get_or, set, ap, sym, refl, ◌∙◌, subst, arith}
use mathlib.Core.Logic.{dite}
use native.Mathlib.Decide.{ℕ_discrete}
use Rattle.csdf_claims.specs.declared.rule.Track.{Track}
use Rattle.csdf_claims.specs.declared.rule.View.{View}
use Rattle.csdf_claims.specs.Board.{blank, track_of, times, Finds, Holds, IsHolding, KeepsAll, KeepsJust, IsBlank, looked, claimed, newcomer_view}
use Rattle.csdf_claims.proofs.Tracks.{track_of-newcomer}
use Rattle.csdf_claims.proofs.Found.{found_held}

pub keeps_trans : (u v w : View) → KeepsAll u v → KeepsAll v w → KeepsAll u w
keeps_trans u v w first second a k = (λ h. (second a k).0 ((first a k).0 h), λ h. (second a k).1 ((first a k).1 h))

pub keeps_holding : (v w : View) (a : ℕ) → KeepsAll v w → IsHolding v a → IsHolding w a
keeps_holding v w a keeps h = (h.0, (keeps a h.0).0 h.1)

-- two tracks of an actor have the same held and finished firings
abbrev AreEven : Track → Track → Type 0
AreEven t u = (t.held ≡ u.held) × (t.finished ≡ u.finished)

pub just_keeps : (v w : View) → KeepsJust v w → KeepsAll v w
just_keeps v w just a k = ((λ h. (just a).0 ∙ h), λ h. subst (λ (xs : List ℕ). 0 < times k xs) (sym (just a).1) h)

set_even : (ts : List Track) (b a : ℕ) (t : Track) → AreEven t (get_or ts b blank) → AreEven (get_or (set ts b t) a blank) (get_or ts a blank)
set_even [] b a t e = (refl, refl)
set_even (u ∷ us) zero zero t e = e
set_even (u ∷ us) zero (suc a) t e = (refl, refl)
set_even (u ∷ us) (suc b) zero t e = (refl, refl)
set_even (u ∷ us) (suc b) (suc a) t e = set_even us b a t e

pub looked_just : (v w : View) (b n : ℕ) → w ≡ looked v b n → KeepsJust v w
looked_just v w b n is =
    subst (KeepsJust v) (sym is) (λ a. set_even v.tracks b a (record (track_of v b) { seen = n / 2 }) (refl, refl))

-- another actor, or the same finished firings
set_finished : (ts : List Track) (b a : ℕ) (t : Track) → t.finished ≡ (get_or ts b blank).finished
    → (get_or (set ts b t) a blank).finished ≡ (get_or ts a blank).finished
set_finished [] b a t e = refl
set_finished (u ∷ us) zero zero t e = e
set_finished (u ∷ us) zero (suc a) t e = refl
set_finished (u ∷ us) (suc b) zero t e = refl
set_finished (u ∷ us) (suc b) (suc a) t e = set_finished us b a t e

set_held : (ts : List Track) (b a : ℕ) (t : Track) → ((a ≡ b) → ⊥) → (get_or (set ts b t) a blank).held ≡ (get_or ts a blank).held
set_held [] b a t ne = refl
set_held (u ∷ us) zero zero t ne = absurd (ne refl)
set_held (u ∷ us) zero (suc a) t ne = refl
set_held (u ∷ us) (suc b) zero t ne = refl
set_held (u ∷ us) (suc b) (suc a) t ne = set_held us b a t (λ e. ne (ap suc e))

-- whoever wins an actor did not hold it, since its word was even
pub claimed_keeps : (v w : View) (b k : ℕ) → w ≡ claimed v b k → Finds v b (2 * k) → b < length v.tracks → KeepsAll v w
claimed_keeps v w b k is found lt =
    subst (KeepsAll v) (sym is)
    (λ a j. let t : Track = record (track_of v b) { held = k ∷ []; seen = k } in (
      (λ h. dite (ℕ_discrete a b)
          (λ same. let odd = found_held v b (2 * k) found lt j (subst (λ (c : ℕ). Holds v c j) same h) in absurd (omega arith))
          (λ other. set_held v.tracks b a t other ∙ h)),
      (λ h. subst (λ (xs : List ℕ). 0 < times j xs) (sym (set_finished v.tracks b a t refl)) h),
    ))

pub newcomer_blank : (v w : View) → w ≡ newcomer_view v → IsBlank w
newcomer_blank v w is =
    subst IsBlank (sym is)
    (λ a k. let t = track_of-newcomer v.tracks a in (
      (λ h. let none : ◌≡◌ {A = List ℕ} [] (k ∷ []) = ap (λ (z : Track). z.held) (sym t) ∙ h in cc),
      (λ h. let none : times k (track_of (newcomer_view v) a).finished ≡ 0 = ap (λ (z : Track). times k z.finished) t in absurd (omega arith)),
    ))
