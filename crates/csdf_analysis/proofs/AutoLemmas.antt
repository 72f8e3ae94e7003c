-- The number of periods in which channels carry few tokens.
use Rattle.std.proofs.Common.{◌≡◌, ℕ, ◌*◌, ◌/◌, ◌≤◌, ◌⊎◌, inl, inr, Option, Some, None, max, List, [], ◌∷◌, refl, sym}
use Rattle.std.proofs.Common.{subst, arith, mul-le-mul}
use Rattle.std.specs.Prelude.{◌≢◌, All, slice_index}
use Rattle.std.proofs.Math.Nat.{div-mul-le_self, div-le_self, le-div_iff_mul-le}
use Rattle.std.proofs.lemmas.List.Elements.{All-nil, All-cons, All-head, All-tail}
use Rattle.csdf_model.specs.Graph.{Channel}
use Rattle.csdf_model.specs.Rates.{produced}
use Rattle.csdf_analysis.specs.Room.{IsGiven, CarriesFew, IsAutoRoom, unless_given, carried, most_carried}
use Rattle.csdf_analysis.proofs.CountLemmas.{less_or_not}

-- ---- few tokens

few_one : (o : Option ℕ) (m tokens : ℕ) → (o ≡ None → m * tokens ≤ 4096) → m * unless_given o tokens ≤ 4096
few_one None m tokens few = few refl
few_one (Some capacity) m tokens few = omega arith

one_few : (o : Option ℕ) (m tokens : ℕ) → m * unless_given o tokens ≤ 4096 → o ≡ None → m * tokens ≤ 4096
one_few o m tokens few is = subst (λ (p : Option ℕ). m * unless_given p tokens ≤ 4096) is few

max_either : (P : ℕ → Type 0) (a b : ℕ) → P a → P b → P (max a b)
max_either P a b one two = elim (less_or_not a b) [
  | inl lt ↦ subst P (let e : b ≡ max a b = omega arith in e) two
  | inr le ↦ subst P (let e : a ≡ max a b = omega arith in e) one
]

few_most : (q : List ℕ) (m : ℕ) (cs : List Channel) → All (CarriesFew q m) cs → m * most_carried q cs ≤ 4096
few_most q m [] few = omega arith
few_most q m (c ∷ cs) few = max_either (λ k. m * k ≤ 4096) (carried q c) (most_carried q cs)
    (few_one c.capacity m (produced c (slice_index q c.from)) (All-head (CarriesFew q m) c cs few))
    (few_most q m cs (All-tail (CarriesFew q m) c cs few))

less_tokens : (m a b : ℕ) → a ≤ b → m * b ≤ 4096 → m * a ≤ 4096
less_tokens m a b le few =
    let more : m * a ≤ m * b = mul-le-mul (let same : m ≤ m = omega arith in same) le in
    omega (arith, more, few)

most_few : (q : List ℕ) (m : ℕ) (cs : List Channel) → m * most_carried q cs ≤ 4096 → All (CarriesFew q m) cs
most_few q m [] few = All-nil (CarriesFew q m)
most_few q m (c ∷ cs) few =
    let most : ℕ = max (carried q c) (most_carried q cs) in
    All-cons (CarriesFew q m) c cs
    (one_few c.capacity m (produced c (slice_index q c.from)) (less_tokens m (carried q c) most (omega arith) few))
    (most_few q m cs (less_tokens m (most_carried q cs) most (omega arith) few))

-- ---- no channel without a capacity

none_carries : (o : Option ℕ) (tokens : ℕ) → 1 ≤ tokens → unless_given o tokens ≡ 0 → o ≢ None
none_carries o tokens some zeros is =
    let here : tokens ≡ 0 = subst (λ (p : Option ℕ). unless_given p tokens ≡ 0) is zeros in
    absurd (omega (arith, here, some))

given_carries : (o : Option ℕ) (tokens : ℕ) → o ≢ None → unless_given o tokens ≡ 0
given_carries None tokens given = absurd (given refl)
given_carries (Some capacity) tokens given = refl

no_most : (q : List ℕ) (cs : List Channel) → All (λ c. 1 ≤ produced c (slice_index q c.from)) cs → most_carried q cs ≡ 0 → All IsGiven cs
no_most q [] some zeros = All-nil IsGiven
no_most q (c ∷ cs) some zeros = All-cons IsGiven c cs
    (none_carries c.capacity (produced c (slice_index q c.from)) (All-head (λ d. 1 ≤ produced d (slice_index q d.from)) c cs some) (omega arith))
    (no_most q cs (All-tail (λ d. 1 ≤ produced d (slice_index q d.from)) c cs some) (omega arith))

all_given : (q : List ℕ) (cs : List Channel) → All IsGiven cs → most_carried q cs ≡ 0
all_given q [] given = refl
all_given q (c ∷ cs) given =
    let one : carried q c ≡ 0 = given_carries c.capacity (produced c (slice_index q c.from)) (All-head IsGiven c cs given) in
    let rest : most_carried q cs ≡ 0 = all_given q cs (All-tail IsGiven c cs given) in
    omega (arith, one, rest)

-- ---- the number of periods

pub auto_none : (q : List ℕ) (cs : List Channel) → All (λ c. 1 ≤ produced c (slice_index q c.from)) cs → most_carried q cs ≡ 0 → IsAutoRoom q cs 1
auto_none q cs some zeros = record {
  some = omega arith;
  within = omega arith;
  few = inl refl;
  greatest = λ more lt few. no_most q cs some zeros;
  given = λ given. refl;
}

one_or_few : (q : List ℕ) (cs : List Channel) (m most : ℕ) → most ≡ most_carried q cs → m ≡ max (4096 / most) 1 → (m ≡ 1) ⊎ All (CarriesFew q m) cs
one_or_few q cs m most is same = elim (less_or_not 1 (4096 / most)) [
  | inl lt ↦
      let own : m ≡ 4096 / most = (let x : ℕ = 4096 / most in omega arith) in
      let fits : 4096 / most * most ≤ 4096 = div-mul-le_self 4096 most in
      inr (most_few q m cs (subst (λ k. m * k ≤ 4096) is (subst (λ k. k * most ≤ 4096) (sym own) fits)))
  | inr le ↦ inl (let x : ℕ = 4096 / most in omega arith)
]

no_more : (q : List ℕ) (cs : List Channel) (more most : ℕ) → most ≡ most_carried q cs → 1 ≤ most → All (CarriesFew q more) cs → more ≤ 4096 / most
no_more q cs more most is some few =
    (le-div_iff_mul-le {k = most} {x = more} {y = 4096} some).1 (subst (λ k. more * k ≤ 4096) (sym is) (few_most q more cs few))

pub auto_most : (q : List ℕ) (cs : List Channel) (m most : ℕ) → most ≡ most_carried q cs → 1 ≤ most → m ≡ max (4096 / most) 1 → IsAutoRoom q cs m
auto_most q cs m most is some same =
    let own : 4096 / most ≤ 4096 = div-le_self 4096 most in
    record {
      some = (let x : ℕ = 4096 / most in omega arith);
      within = (let x : ℕ = 4096 / most in omega arith);
      few = one_or_few q cs m most is same;
      greatest = λ more lt few. (let none = no_more q cs more most is some few in absurd (let x : ℕ = 4096 / most in omega arith));
      given = λ given. (let zeros = all_given q cs given in absurd (omega arith));
    }
