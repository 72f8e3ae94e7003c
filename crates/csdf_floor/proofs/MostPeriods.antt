-- How many periods a run may have.
use Rattle.std.proofs.Common.{◌≡◌, ◌↔◌, ℕ, ◌+◌, ◌-◌, ◌*◌, ◌/◌, ◌<◌, ◌≤◌, List, length, get_or, inl, inr, sym, subst, arith}
use Rattle.std.proofs.Math.Nat.{div-le_self, le-div_iff_mul-le, le_trans}
use Rattle.std.specs.Prelude.{All}
use Rattle.std.proofs.lemmas.List.Elements.{All-get_or, All-from_get_or}
use Rattle.std.proofs.lemmas.Bool.Decides.{eqb_tells}
use Rattle.csdf_analysis.specs.Acceptance.{Accepted, IsAccepted}
use Rattle.csdf_floor.specs.Work.{IsMostPeriods}
use Rattle.csdf_floor.proofs.Works.{few_in_thousand}

-- of one actor
pub most_of_one : (k n : ℕ) → 0 < k → (n ≤ 16384000 / k) ↔ ((n ≤ 16384000) × (n * k ≤ 16384000))
most_of_one k n some = (
  λ le. (le_trans le (div-le_self 16384000 k), (le-div_iff_mul-le {k = k} {x = n} {y = 16384000} some).0 le),
  λ both. (le-div_iff_mul-le {k = k} {x = n} {y = 16384000} some).1 both.1,
)

-- the most for the actors before number i
abbrev pub IsMostBelow : ℕ → List ℕ → ℕ → Type 0
IsMostBelow i qs most = (n : ℕ) → (n ≤ most) ↔ ((n ≤ 16384000) × ((j : ℕ) → j < i → n * get_or qs j 0 ≤ 16384000))

pub most_before_all : (qs : List ℕ) → IsMostBelow 0 qs 16384000
most_before_all qs n = (λ le. (le, λ j below. absurd (omega (arith, below))), λ both. both.0)

-- the lesser of two, for one actor more
pub most_with_one : (qs : List ℕ) (i most own over : ℕ) → over ≡ most - own → IsMostBelow i qs most
    → ((n : ℕ) → (n ≤ own) ↔ ((n ≤ 16384000) × (n * get_or qs i 0 ≤ 16384000)))
    → IsMostBelow (i + 1) qs (most - over)
most_with_one qs i most own over is before here n = (
  λ le.
      (let a = (before n).0 (let x : n ≤ most = omega (arith, le, is) in x) in
      let b = (here n).0 (let x : n ≤ own = omega (arith, le, is) in x) in (
        a.0,
        λ j below. elim (eqb_tells j i) [
          | inl same ↦ subst (λ k. n * get_or qs k 0 ≤ 16384000) (sym same.1) b.1
          | inr other ↦ a.1 j (let ne = other.1 in omega arith)
        ],
      )),
  λ both.
      (let a : n ≤ most = (before n).1 (both.0, λ j below. both.1 j (omega (arith, below))) in
      let b : n ≤ own = (here n).1 (both.0, both.1 i (omega arith)) in
      omega (arith, a, b, is)),
)

pub most_of_all : (a : Accepted) (qs : List ℕ) (i most : ℕ) → qs ≡ a.q → i ≡ length qs → IsMostBelow i qs most → IsMostPeriods a most
most_of_all a qs i most same end is n = (
  λ le.
      (let all = (is n).0 le in
      (all.0, subst (All (λ q. n * q ≤ 16384000)) same (All-from_get_or (λ q. n * q ≤ 16384000) qs 0 (λ j below. all.1 j (omega (arith, below, end)))))),
  λ both.
      (is n).1 (
        both.0,
        λ j below.
            All-get_or (λ q. n * q ≤ 16384000) qs j 0 (omega (arith, below, end)) (subst (All (λ q. n * q ≤ 16384000)) (sym same) both.1),
      ),
)

pub most_is_many : (a : Accepted) (most : ℕ) → IsAccepted a → IsMostPeriods a most → 1000 ≤ most
most_is_many a most ok is = (is 1000).1 (omega arith, few_in_thousand a 1000 ok (omega arith))
