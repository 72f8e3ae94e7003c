-- How many cells a list has, by counting each number below a bound.
use Rattle.std.proofs.Common.{◌≡◌, ℕ, zero, suc, ◌+◌, ◌<◌, ◌≤◌, List, [], ◌∷◌, length, ap, refl, arith, inl, inr, All, ◌∙◌, sym}
use Rattle.std.proofs.lemmas.Bool.{cases_eq}
use Rattle.csdf_pool.specs.Cells.{times, EachOnce}
use Rattle.csdf_pool.proofs.Times.{times-cons_same, times-cons_other}

-- how often the numbers below n stand in the list, all together
abbrev pub total : ℕ → List ℕ → ℕ
total zero cells = 0
total (suc n) cells = times n cells + total n cells

total-nil : (n : ℕ) → total n [] ≡ 0
total-nil zero = refl
total-nil (suc n) = omega (arith, total-nil n)

total-cons_above : (n x : ℕ) (xs : List ℕ) → n ≤ x → total n (x ∷ xs) ≡ total n xs
total-cons_above zero x xs h = refl
total-cons_above (suc n) x xs h =
    omega (arith, times-cons_other n x xs (omega (arith, h)), total-cons_above n x xs (omega (arith, h)))

total-cons_below : (n x : ℕ) (xs : List ℕ) → x < n → total n (x ∷ xs) ≡ suc (total n xs)
total-cons_below zero x xs h = absurd (omega (arith, h))
total-cons_below (suc n) x xs h = elim (cases_eq x n) [
  | inl same ↦ omega (arith, total-cons_above n x xs (omega (arith, same)), ap (λ c. times c (x ∷ xs)) same, ap (λ c. times c xs) same, times-cons_same x xs)
  | inr other ↦ omega (arith, times-cons_other n x xs other, total-cons_below n x xs (omega (arith, h, other)))
]

-- where all cells lie below n, they are as many as the list is long
pub total-all : (n : ℕ) (xs : List ℕ) → All (λ c. c < n) xs → total n xs ≡ length xs
total-all n [] all = total-nil n
total-all n (x ∷ xs) all =
    total-cons_below n x xs (all 0 0 (omega arith))
    ∙ ap suc (total-all n xs (λ k d below. all (suc k) d (omega (arith, below))))

total-le : (n : ℕ) (xs : List ℕ) → EachOnce xs → total n xs ≤ n
total-le zero xs once = omega arith
total-le (suc n) xs once = omega (arith, once n, total-le n xs once)

-- a list of different cells below n has no more than n
pub length-EachOnce : (n : ℕ) (xs : List ℕ) → EachOnce xs → All (λ c. c < n) xs → length xs ≤ n
length-EachOnce n xs once all = omega (arith, total-le n xs once, total-all n xs all)

total-once : (m n : ℕ) (xs : List ℕ) → m ≤ n → ((c : ℕ) → c < n → times c xs ≡ 1) → total m xs ≡ m
total-once zero n xs h once = refl
total-once (suc m) n xs h once = omega (arith, once m (omega (arith, h)), total-once m n xs (omega (arith, h)) once)

-- a list of cells below n in which each number below n stands once has n of them
pub length-once : (n : ℕ) (xs : List ℕ) → ((c : ℕ) → c < n → times c xs ≡ 1) → All (λ c. c < n) xs → length xs ≡ n
length-once n xs once all = sym (total-all n xs all) ∙ total-once n n xs (omega arith) once
