-- Counting a cell in lists.
use Rattle.std.proofs.Common.{◌≡◌, ◌≢◌, ℕ, zero, suc, ◌+◌, ◌<◌, ◌≤◌, List, [], ◌∷◌, ◌++◌, length, get_or, ap, arith, All, subst, inl, inr}
use Rattle.std.proofs.lemmas.Bool.Decides.{nat_tests}
use Rattle.std.proofs.lemmas.Bool.{cases_eq}
use Rattle.csdf_pool.specs.Cells.{times}

pub times-append : (cell : ℕ) (xs ys : List ℕ) → times cell (xs ++ ys) ≡ times cell xs + times cell ys
times-append cell [] ys = omega arith
times-append cell (x ∷ xs) ys = omega (arith, times-append cell xs ys)

-- the first of a list stands in it
pub times-cons_same : (cell : ℕ) (xs : List ℕ) → times cell (cell ∷ xs) ≡ suc (times cell xs)
times-cons_same cell xs = grind (arith, nat_tests)

pub times-cons_other : (cell x : ℕ) (xs : List ℕ) → x ≢ cell → times cell (x ∷ xs) ≡ times cell xs
times-cons_other cell x xs other = grind (arith, nat_tests)

-- what stands in the rest stands in the list
pub times-cons-le : (cell x : ℕ) (xs : List ℕ) → times cell xs ≤ times cell (x ∷ xs)
times-cons-le cell x xs = omega arith

-- what stands at a place stands in the list
pub times_at : (xs : List ℕ) (i : ℕ) → i < length xs → 0 < times (get_or xs i 0) xs
times_at [] i h = absurd (omega (arith, h))
times_at (x ∷ xs) zero h = omega (arith, times-cons_same x xs)
times_at (x ∷ xs) (suc i) h =
    omega (arith, times_at xs i (omega (arith, h)), times-cons-le (get_or xs i 0) x xs)

-- what holds of each of a list holds of what stands in it
pub holds_of : (P : ℕ → Type 0) (cell : ℕ) (xs : List ℕ) → All P xs → 0 < times cell xs → P cell
holds_of P cell [] all h = absurd (omega (arith, h))
holds_of P cell (x ∷ xs) all h = elim (cases_eq x cell) [
  | inl same ↦ subst P same (all 0 0 (omega arith))
  | inr other ↦ holds_of P cell xs (λ k d below. all (suc k) d (omega (arith, below))) (omega (arith, h, times-cons_other cell x xs other))
]

-- what stands in a list nowhere is at none of its places
pub absent_at : (cell : ℕ) (xs : List ℕ) → times cell xs ≡ 0 → (i : ℕ) → i < length xs → get_or xs i 0 ≢ cell
absent_at cell xs none i below same =
    omega (arith, times_at xs i below, ap (λ c. times c xs) same)
