-- What an actor's firing moves at a side, looked up by its phase.
use Rattle.std.proofs.Common.{◌≡◌, ℕ, ◌<◌, ◌≤◌, List, inl, inr, length, get_or, refl, ap, ◌∙◌, sym, arith}
use Rattle.std.specs.Prelude.{sum_by}
use Rattle.std.proofs.Math.Nat.{mod-eq_of_lt}
use Rattle.std.proofs.lemmas.List.{get_or_past}
use Rattle.std.proofs.lemmas.Bool.Decides.{leb_tells}
use Rattle.csdf_model.specs.Rates.{rate}
use Rattle.csdf_core.specs.declared.side.Side.{Side}
use Rattle.csdf_core.specs.Phases.{HasPhases, IsInPhase, IsPhase}
use Rattle.csdf_core.specs.Plan.{Channel}
use Rattle.csdf_core.specs.Sides.{amount_at, ends_at, moved, rates_at}
use Rattle.csdf_core.proofs.OwnChannels.{has_at, in_phase_at, moved_alike, moved_is, of_ends, sum_same}
use Rattle.csdf_core.proofs.RateTotals.{sum_none}

-- the list has the first n amounts, each 8,192 at most
pub record HasAmounts (amount : ℕ → ℕ) (n : ℕ) (amounts : List ℕ) : Type 0 where
  pub count : length amounts ≡ n
  pub each : (i : ℕ) → i < n → get_or amounts i 0 ≡ amount i
  pub few : (i : ℕ) → i < n → get_or amounts i 0 ≤ 8192

rate_of_phase : (rates : List ℕ) (k phase : ℕ) → IsPhase rates k phase → rate rates phase ≡ rate rates k
rate_of_phase rates k phase h = ap (λ p. get_or rates p 0) (mod-eq_of_lt {n = phase} {m = length rates} h.within ∙ h.is)

-- no channel there has so great a phase
none_moved : (side : Side) (cs : List Channel) (a k phase n : ℕ) → IsInPhase cs a k phase → HasPhases cs a n → n ≤ phase → 0 ≡ moved side a k cs
none_moved side cs a k phase n h has le =
    sym (sum_same (amount_at side cs k) (λ _. 0) (ends_at side cs a) (of_ends (λ c. amount_at side cs k c ≡ 0) side cs a
    (λ c lt own. (let w = (in_phase_at side cs a k phase c h lt own).within in let l = has_at side cs a n c has lt own in absurd (omega arith))))
    ∙ sum_none (λ _. 0) (λ _. refl) (ends_at side cs a))
    ∙ moved_is side a k cs

-- the table of the first phases tells it in whichever
pub told_by_phase : (side : Side) (cs : List Channel) (a n : ℕ) (table : List ℕ) → HasPhases cs a n
    → HasAmounts (λ phase. sum_by (amount_at side cs phase) (ends_at side cs a)) n table
    → (k phase : ℕ) → IsInPhase cs a k phase → get_or table phase 0 ≡ moved side a k cs
told_by_phase side cs a n table has told k phase h = elim (leb_tells n phase) [
  | inl past ↦ get_or_past table phase 0 (let e = told.count in let p = past.1 in omega arith) ∙ none_moved side cs a k phase n h has past.1
  | inr low ↦ told.each phase low.1 ∙ moved_is side a phase cs ∙ moved_alike side cs a phase k (λ c lt own. rate_of_phase (rates_at side cs c) k phase (in_phase_at side cs a k phase c h lt own))
]

pub small_by_phase : (amount : ℕ → ℕ) (n : ℕ) (table : List ℕ) → HasAmounts amount n table → (phase : ℕ) → get_or table phase 0 ≤ 8192
small_by_phase amount n table told phase = elim (leb_tells n phase) [
  | inl past ↦ (let z = get_or_past table phase 0 (let e = told.count in let p = past.1 in omega arith) in omega arith)
  | inr low ↦ told.few phase low.1
]
