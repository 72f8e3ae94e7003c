-- How sums over all places change when one place changes, and how often a number stands in a list.
use Rattle.std.proofs.Common.{◌≡◌, ◌≢◌, ℕ, zero, suc, ◌+◌, ◌<◌, ◌≤◌, eqb, List, [], ◌∷◌, ◌++◌, set, sym, refl, ap, arith, eq-eqb, ne_eqb}
use Rattle.std.specs.List.{range_with_len}
use mathlib.Core.Logic.{dite}
use native.Mathlib.Decide.{ℕ_discrete}
use mathlib.Core.Option.{some, some-injective, some-ne-none}
use lib.ListN.{get_elem?}
use Rattle.csdf_claims.specs.declared.rule.View.{View}
use Rattle.csdf_claims.specs.Board.{one_if, times, total}

pub times-append : (x : ℕ) (xs ys : List ℕ) → times x (xs ++ ys) ≡ times x xs + times x ys
times-append x [] ys = omega arith
times-append x (y ∷ xs) ys = let r = times-append x xs ys in omega arith

pub times_one_same : (x k : ℕ) → x ≡ k → times x (k ∷ []) ≡ 1
times_one_same x k e = let b : one_if (eqb k x) ≡ 1 = ap one_if (eq-eqb k x (sym e)) in omega arith

pub times_one_other : (x k : ℕ) → x ≢ k → times x (k ∷ []) ≡ 0
times_one_other x k ne = let b : one_if (eqb k x) ≡ 0 = ap one_if (ne_eqb k x (λ e. ne (sym e))) in omega arith

-- of the n numbers from k on each stands there once, and no other one does
pub times_before : (x k n : ℕ) → x < k → times x (range_with_len k n) ≡ 0
times_before x k zero h = refl
times_before x k (suc n) h =
    let r = times_before x (k + 1) n (omega arith) in let o = times_one_other x k (λ e. absurd (omega arith)) in omega arith

pub times_beyond : (x k n : ℕ) → k + n ≤ x → times x (range_with_len k n) ≡ 0
times_beyond x k zero h = refl
times_beyond x k (suc n) h =
    let r = times_beyond x (k + 1) n (omega arith) in let o = times_one_other x k (λ e. absurd (omega arith)) in omega arith

pub times_within : (x k n : ℕ) → k ≤ x → x < k + n → times x (range_with_len k n) ≡ 1
times_within x k zero low high = absurd (omega arith)
times_within x k (suc n) low high = dite (ℕ_discrete x k)
    (λ e. let r = times_before x (k + 1) n (omega arith) in let o = times_one_same x k e in omega arith)
    (λ ne. let r = times_within x (k + 1) n (omega arith) (omega arith) in let o = times_one_other x k ne in omega arith)

pub total_set : (f : View → ℕ) (places : List View) (i : ℕ) (v w : View) → get_elem? places i ≡ some v → total f (set places i w) + f v ≡ total f places + f w
total_set f [] i v w e = absurd (some-ne-none v (sym e))
total_set f (x ∷ xs) zero v w e = let is : f x ≡ f v = ap f (some-injective x v e) in omega arith
total_set f (x ∷ xs) (suc i) v w e = let r = total_set f xs i v w e in omega arith

pub total_snoc : (f : View → ℕ) (places : List View) (w : View) → total f (places ++ w ∷ []) ≡ total f places + f w
total_snoc f [] w = omega arith
total_snoc f (x ∷ xs) w = let r = total_snoc f xs w in omega arith

-- one place counts no more than all places together
pub total_at : (f : View → ℕ) (places : List View) (i : ℕ) (v : View) → get_elem? places i ≡ some v → f v ≤ total f places
total_at f [] i v e = absurd (some-ne-none v (sym e))
total_at f (x ∷ xs) zero v e = let is : f x ≡ f v = ap f (some-injective x v e) in omega arith
total_at f (x ∷ xs) (suc i) v e = let r = total_at f xs i v e in omega arith
