-- Counts of firings, their sums, and totals of rates that grow with them.
use Rattle.std.proofs.Common.{◌≡◌, ℕ, zero, suc, ◌+◌, ◌-◌, ◌<◌, ◌≤◌, ◌⊎◌, inl, inr, ◌==◌, nat_lt, List, [], ◌∷◌, length, replicate, get_or, sum, refl, sym, ap}
use Rattle.std.proofs.Common.{subst, ◌∙◌, arith}
use Rattle.std.specs.Prelude.{slice_index}
use Rattle.std.proofs.lemmas.Bool.{cases_Bool, eqb-true, eqb-false, ltb-true, ltb-false}
use Rattle.std.proofs.lemmas.List.{get_or-set_same, get_or-set_other, length-set}
use Rattle.std.proofs.lemmas.List.Sums.{sum_by-cons, sum_by-set}
use Rattle.csdf_model.specs.Rates.{rate, total}
use Rattle.csdf_analysis.specs.Period.{fired}
use Rattle.csdf_analysis.specs.Laws.{IsWithinAll}

pub same_or_not : (a b : ℕ) → (a ≡ b) ⊎ (a ≡ b → ⊥)
same_or_not a b = elim (cases_Bool (a == b)) [ inl y ↦ inl (eqb-true a b y) | inr n ↦ inr (eqb-false a b n) ]

pub less_or_not : (a b : ℕ) → (a < b) ⊎ (b ≤ a)
less_or_not a b = elim (cases_Bool (nat_lt a b)) [ inl y ↦ inl (ltb-true a b y) | inr n ↦ inr (ltb-false a b n) ]

-- ---- totals grow

total_grows : (rates : List ℕ) (n k : ℕ) → total rates n ≤ total rates (k + n)
total_grows rates n zero = let e : 0 + n ≡ n = omega arith in let same : total rates (0 + n) ≡ total rates n = ap (total rates) e in omega arith
total_grows rates n (suc k) =
    let e : suc k + n ≡ suc (k + n) = omega arith in
    let before : total rates n ≤ total rates (k + n) = total_grows rates n k in
    let whole : total rates (suc k + n) ≡ total rates (k + n) + rate rates (k + n) = ap (total rates) e in
    omega arith

pub total_mono : (rates : List ℕ) (n m : ℕ) → n ≤ m → total rates n ≤ total rates m
total_mono rates n m le =
    let e : (m - n) + n ≡ m = omega arith in
    subst (λ k. total rates n ≤ total rates k) e (total_grows rates n (m - n))

-- ---- one firing more

pub fired_same : (n : List ℕ) (a : ℕ) → a < length n → get_or (fired n a) a 0 ≡ suc (get_or n a 0)
fired_same n a lt = get_or-set_same n a (suc (get_or n a 0)) 0 lt

pub fired_other : (n : List ℕ) (a b : ℕ) → (b ≡ a → ⊥) → get_or (fired n a) b 0 ≡ get_or n b 0
fired_other n a b other = get_or-set_other n a b (suc (get_or n a 0)) 0 other

pub fired_length : (n : List ℕ) (a : ℕ) → length (fired n a) ≡ length n
fired_length n a = length-set n a (suc (get_or n a 0))

pub fired_more : (n : List ℕ) (a b : ℕ) → a < length n → get_or n b 0 ≤ get_or (fired n a) b 0
fired_more n a b lt = elim (same_or_not b a) [
  | inl same ↦
      let one : get_or (fired n a) b 0 ≡ suc (get_or n b 0) = ap (λ k. get_or (fired n a) k 0) same ∙ fired_same n a lt
      ∙ ap (λ k. suc (get_or n k 0)) (sym same) in
      omega arith
  | inr other ↦ let one = fired_other n a b other in omega arith
]

-- one count rises, within the others
pub fired_within : (n m : List ℕ) (a : ℕ) → a < length n → IsWithinAll n m → get_or n a 0 < get_or m a 0 → IsWithinAll (fired n a) m
fired_within n m a lt within less b = elim (same_or_not b a) [
  | inl same ↦
      let one : get_or (fired n a) b 0 ≡ suc (get_or n a 0) = ap (λ k. get_or (fired n a) k 0) same ∙ fired_same n a lt in
      let there : get_or m b 0 ≡ get_or m a 0 = ap (λ k. get_or m k 0) same in
      omega arith
  | inr other ↦ let one = fired_other n a b other in let before = within b in omega arith
]

-- the same count rises in both
pub fired_both : (n m : List ℕ) (a : ℕ) → a < length n → a < length m → IsWithinAll n m → IsWithinAll (fired n a) (fired m a)
fired_both n m a lt lt2 within b = elim (same_or_not b a) [
  | inl same ↦
      let one : get_or (fired n a) b 0 ≡ suc (get_or n a 0) = ap (λ k. get_or (fired n a) k 0) same ∙ fired_same n a lt in
      let two : get_or (fired m a) b 0 ≡ suc (get_or m a 0) = ap (λ k. get_or (fired m a) k 0) same ∙ fired_same m a lt2 in
      let before = within a in
      omega arith
  | inr other ↦ let one = fired_other n a b other in let two = fired_other m a b other in let before = within b in omega arith
]

pub fired_sum : (n : List ℕ) (a : ℕ) → a < length n → sum (fired n a) ≡ suc (sum n)
fired_sum n a lt = let one = sum_by-set (λ x. x) n a (suc (get_or n a 0)) 0 lt in omega arith

pub none_at : (k b : ℕ) → slice_index (replicate k 0) b ≡ 0
none_at zero b = refl
none_at (suc k) zero = refl
none_at (suc k) (suc b) = none_at k b

-- ---- sums

pub sum_within : (n q : List ℕ) → length n ≡ length q → IsWithinAll n q → sum n ≤ sum q
sum_within [] [] len within = omega arith
sum_within [] (y ∷ q) len within = absurd (omega arith)
sum_within (x ∷ n) [] len within = absurd (omega arith)
sum_within (x ∷ n) (y ∷ q) len within =
    let rest : sum n ≤ sum q = sum_within n q (omega arith) (λ b. within (suc b)) in
    let here : x ≤ y = within 0 in
    omega (arith, sum_by-cons (λ k. k) x n, sum_by-cons (λ k. k) y q)

-- where the sum is less some count is
pub some_less : (n q : List ℕ) → length n ≡ length q → sum n < sum q → (b : ℕ) × (get_or n b 0 < get_or q b 0)
some_less [] [] len less = absurd (omega arith)
some_less [] (y ∷ q) len less = absurd (omega arith)
some_less (x ∷ n) [] len less = absurd (omega arith)
some_less (x ∷ n) (y ∷ q) len less = elim (less_or_not x y) [
  | inl lt ↦ (0, lt)
  | inr ge ↦
      let rest = some_less n q (omega arith) (omega (arith, sum_by-cons (λ k. k) x n, sum_by-cons (λ k. k) y q)) in
      (suc rest.0, rest.1)
]

-- counts within others of the same sum are the same
pub all_same : (n q : List ℕ) → length n ≡ length q → IsWithinAll n q → sum n ≡ sum q → n ≡ q
all_same [] [] len within same = refl
all_same [] (y ∷ q) len within same = absurd (omega arith)
all_same (x ∷ n) [] len within same = absurd (omega arith)
all_same (x ∷ n) (y ∷ q) len within same =
    let rest : sum n ≤ sum q = sum_within n q (omega arith) (λ b. within (suc b)) in
    let here : x ≤ y = within 0 in
    let head : x ≡ y = omega (arith, sum_by-cons (λ k. k) x n, sum_by-cons (λ k. k) y q) in
    let tail : n ≡ q = all_same n q (omega arith) (λ b. within (suc b)) (omega (arith, sum_by-cons (λ k. k) x n, sum_by-cons (λ k. k) y q)) in
    ap (λ k. k ∷ n) head ∙ ap (λ ks. y ∷ ks) tail
