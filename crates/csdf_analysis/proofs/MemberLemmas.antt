-- What a merge makes of groups and entries.
use Rattle.std.proofs.Common.{◌≡◌, ◌≢◌, ℕ, zero, suc, ◌+◌, ◌*◌, ◌<◌, ◌≤◌, ◌==◌, if◌then◌else◌, inl, inr, List, [], ◌∷◌, ◌++◌, length, take, drop, map, refl}
use Rattle.std.proofs.Common.{sym, ap, ◌∙◌, arith}
use Rattle.std.specs.Prelude.{All}
use Rattle.std.proofs.lemmas.Bool.{cases_Bool, eqb-true, eq-eqb}
use Rattle.std.proofs.Math.Seq.{take-append_seam, drop-append_seam}
use Rattle.std.proofs.lemmas.List.{get_or-map}
use Rattle.std.proofs.lemmas.List.Elements.{All-take, All-drop, All-same, All-head}
use Rattle.csdf_analysis.specs.declared.members.Member.{Member}
use Rattle.csdf_analysis.specs.declared.members.Merge.{Merge}
use Rattle.csdf_analysis.specs.Members.{nobody, group_at, entry_at, factor, moved}

-- ---- lists with one more

pub All-front : {X : Type 0} (P : X → Type 0) (xs : List X) (x : X) → All P (xs ++ x ∷ []) → All P xs
All-front P xs x all = All-same P xs (take (length xs) (xs ++ x ∷ [])) (sym (take-append_seam xs (x ∷ []))) (All-take P (length xs) (xs ++ x ∷ []) all)

pub All-last : {X : Type 0} (P : X → Type 0) (xs : List X) (x : X) → All P (xs ++ x ∷ []) → P x
All-last P xs x all = All-head P x [] (All-same P (x ∷ []) (drop (length xs) (xs ++ x ∷ [])) (sym (drop-append_seam xs (x ∷ [])))
    (All-drop P (length xs) (xs ++ x ∷ []) all))

-- ---- numbers

-- a positive multiple is no smaller
pub multiple_le : (k e w : ℕ) → w ≡ k * e → 1 ≤ w → e ≤ w
multiple_le zero e w is some = let none : 0 * e ≡ 0 = omega arith in absurd (omega arith)
multiple_le (suc k) e w is some = let more : suc k * e ≡ k * e + e = omega arith in omega arith

-- ---- members

pub group_moved : (m : Merge) (ms : List Member) (a : ℕ) → a < length ms
    → group_at (map (moved m) ms) a ≡ (if group_at ms a == m.gone then m.into else group_at ms a)
group_moved m ms a lt = ap (λ (x : Member). x.group) (get_or-map (moved m) ms a nobody nobody lt)

pub entry_moved : (m : Merge) (ms : List Member) (a : ℕ) → a < length ms → entry_at (map (moved m) ms) a ≡ entry_at ms a * factor m (group_at ms a)
entry_moved m ms a lt = ap (λ (x : Member). x.entry) (get_or-map (moved m) ms a nobody nobody lt)

-- the multipliers of the groups after a merge
abbrev pub multiplier : Merge → (ℕ → ℕ) → ℕ → ℕ → ℕ
multiplier m k j r = if r == m.into then j else k r

-- what was a multiple is one after the merge
pub multiple_moved : (m : Merge) (k : ℕ → ℕ) (j r e w : ℕ) → k m.gone ≡ j * m.gone_factor → k m.into ≡ j * m.into_factor → w ≡ k r * e →
    w ≡ multiplier m k j (if r == m.gone then m.into else r) * (e * factor m r)
multiple_moved m k j r e w at_gone at_into is =
    elim (cases_Bool (r == m.gone)) [
      | inl y ↦ rw (y, eq-eqb m.into m.into refl) (is ∙ ap (λ n. k n * e) (eqb-true r m.gone y) ∙ ap (λ n. n * e) at_gone
          ∙ (let order : (j * m.gone_factor) * e ≡ j * (e * m.gone_factor) = omega arith in order))
      | inr n ↦ rw n (elim (cases_Bool (r == m.into)) [
        | inl y ↦ rw y (is ∙ ap (λ n. k n * e) (eqb-true r m.into y) ∙ ap (λ n. n * e) at_into
            ∙ (let order : (j * m.into_factor) * e ≡ j * (e * m.into_factor) = omega arith in order))
        | inr n2 ↦ rw n2 (is ∙ (let order : k r * e ≡ k r * (e * 1) = omega arith in order))
      ])
    ]

-- a factor at either group
pub factor_gone : (m : Merge) (r : ℕ) → r ≡ m.gone → factor m r ≡ m.gone_factor
factor_gone m r e = rw (eq-eqb r m.gone e) refl

pub factor_into : (m : Merge) (r : ℕ) → r ≡ m.into → m.gone ≢ m.into → factor m r ≡ m.into_factor
factor_into m r e apart =
    elim (cases_Bool (r == m.gone)) [
      | inl y ↦ absurd (apart (sym (eqb-true r m.gone y) ∙ e))
      | inr n ↦ rw (n, eq-eqb r m.into e) refl
    ]

pub group_gone : (m : Merge) (r : ℕ) → r ≡ m.gone → (if r == m.gone then m.into else r) ≡ m.into
group_gone m r e = rw (eq-eqb r m.gone e) refl

pub group_into : (m : Merge) (r : ℕ) → r ≡ m.into → (if r == m.gone then m.into else r) ≡ m.into
group_into m r e = elim (cases_Bool (r == m.gone)) [ inl y ↦ rw y refl | inr n ↦ rw n e ]

-- every factor is at least 1 where those of the two groups are
pub factor_some : (m : Merge) (r : ℕ) → 1 ≤ m.gone_factor → 1 ≤ m.into_factor → 1 ≤ factor m r
factor_some m r first second =
    elim (cases_Bool (r == m.gone)) [
      | inl y ↦ rw y first
      | inr n ↦ rw n (elim (cases_Bool (r == m.into)) [ inl y ↦ rw y second | inr n2 ↦ rw n2 (omega arith) ])
    ]
