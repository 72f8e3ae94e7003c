-- A list in which each number below n stands at most once, and no other one, has at most n elements. Where it has n, each of them stands in it.
use Rattle.std.proofs.Common.{◌≡◌, ℕ, zero, suc, ◌+◌, ◌<◌, ◌≤◌, eqb, ltb, List, [], ◌∷◌, length, refl, ap, ◌∙◌, arith, eq-eqb, ne_eqb}
use mathlib.Core.Logic.{dite}
use native.Mathlib.Decide.{ℕ_discrete, dec_lt}
use Rattle.std.proofs.lemmas.Bool.{lt-ltb, le-ltb}
use Rattle.csdf_claims.specs.Board.{one_if, times}

-- how many elements are below n
abbrev below : ℕ → List ℕ → ℕ
below n [] = 0
below n (y ∷ ys) = one_if (ltb y n) + below n ys

one_below : (y n : ℕ) → one_if (ltb y (suc n)) ≡ one_if (ltb y n) + one_if (eqb y n)
one_below y n = dite (dec_lt y n)
    (λ lt. let a : one_if (ltb y (suc n)) ≡ 1 = ap one_if (lt-ltb y (suc n) (omega arith)) in let b : one_if (ltb y n) ≡ 1 = ap one_if (lt-ltb y n lt) in
    let c : one_if (eqb y n) ≡ 0 = ap one_if (ne_eqb y n (λ e. absurd (omega arith))) in omega arith)
    (λ ge. dite (ℕ_discrete y n)
    (λ e. let a : one_if (ltb y (suc n)) ≡ 1 = ap one_if (lt-ltb y (suc n) (omega arith)) in
    let b : one_if (ltb y n) ≡ 0 = ap one_if (le-ltb y n (omega arith)) in let c : one_if (eqb y n) ≡ 1 = ap one_if (eq-eqb y n e) in omega arith)
    (λ ne. let a : one_if (ltb y (suc n)) ≡ 0 = ap one_if (le-ltb y (suc n) (omega arith)) in
    let b : one_if (ltb y n) ≡ 0 = ap one_if (le-ltb y n (omega arith)) in let c : one_if (eqb y n) ≡ 0 = ap one_if (ne_eqb y n ne) in omega arith))

below_suc : (n : ℕ) (xs : List ℕ) → below (suc n) xs ≡ below n xs + times n xs
below_suc n [] = refl
below_suc n (y ∷ ys) = let r = below_suc n ys in let h = one_below y n in omega arith

below_zero : (xs : List ℕ) → below 0 xs ≡ 0
below_zero [] = refl
below_zero (y ∷ ys) = let r = below_zero ys in let h : one_if (ltb y 0) ≡ 0 = ap one_if (le-ltb y 0 (omega arith)) in omega arith

below_le : (n : ℕ) (xs : List ℕ) → ((x : ℕ) → times x xs ≤ 1) → below n xs ≤ n
below_le zero xs once = omega (arith, below_zero xs)
below_le (suc n) xs once = omega (arith, below_suc n xs, below_le n xs once, once n)

below_all : (n : ℕ) (xs : List ℕ) → ((x : ℕ) → n ≤ x → times x xs ≡ 0) → below n xs ≡ length xs
below_all n [] none = refl
below_all n (y ∷ ys) none =
    let r = below_all n ys (λ x h. let z = none x h in omega arith) in
    dite (dec_lt y n)
    (λ lt. let b : one_if (ltb y n) ≡ 1 = ap one_if (lt-ltb y n lt) in omega arith)
    (λ ge. let z = none y (omega arith) in let c : one_if (eqb y y) ≡ 1 = ap one_if (eq-eqb y y refl) in absurd (omega arith))

below_full : (n : ℕ) (xs : List ℕ) → ((x : ℕ) → times x xs ≤ 1) → below n xs ≡ n → (x : ℕ) → x < n → times x xs ≡ 1
below_full zero xs once full x h = absurd (omega arith)
below_full (suc n) xs once full x h =
    let s = below_suc n xs in let l = below_le n xs once in let o = once n in
    dite (ℕ_discrete x n)
    (λ e. let is : times x xs ≡ times n xs = ap (λ (k : ℕ). times k xs) e in omega arith)
    (λ ne. below_full n xs once (omega arith) x (omega arith))

module _ (n : ℕ) (xs : List ℕ) (once : (x : ℕ) → times x xs ≤ 1) (none : (x : ℕ) → n ≤ x → times x xs ≡ 0) where
  pub no_more_than : length xs ≤ n
  no_more_than = omega (arith, below_all n xs none, below_le n xs once)

  pub all_of_them : length xs ≡ n → (x : ℕ) → x < n → times x xs ≡ 1
  all_of_them full = below_full n xs once (below_all n xs none ∙ full)
