-- What several firings move, from one of them on: at a list of rates, and over an actor's channels.
use Rattle.std.proofs.Common.{◌≡◌, ℕ, zero, suc, ◌+◌, ◌*◌, ◌≤◌, ◌%◌, List, [], ◌∷◌, length, get_or, refl, ap, sym, ◌∙◌, arith}
use Rattle.std.proofs.Math.Nat.{mod-one, suc-mul}
use Rattle.std.specs.Prelude.{sum_by}
use Rattle.std.proofs.lemmas.List.Sums.{sum_by-cons}
use Rattle.csdf_model.specs.Rates.{rate, total}
use Rattle.csdf_core.specs.Blocks.{needs_of, gifts_of, takes_at, gives_at}
use Rattle.csdf_core.specs.Plan.{Channel}
use Rattle.csdf_core.specs.Ports.{inputs_at, outputs_at, take_at, give_at}
use Rattle.csdf_core.specs.Rows.{gift}
use Rattle.csdf_core.proofs.PortLemmas.{need_is, gift_is}

-- more firings move no less
pub total_grows : (rates : List ℕ) (k n : ℕ) → total rates k ≤ total rates (k + n)
total_grows rates k zero = let e = ap (total rates) (let z : k + 0 ≡ k = omega arith in z) in omega (arith, e)
total_grows rates k (suc n) =
    let e = ap (total rates) (let z : k + suc n ≡ suc (k + n) = omega arith in z) in
    omega (arith, e, total_grows rates k n)

module _ (rates : List ℕ) (moved : ℕ → ℕ → ℕ) (none : (k : ℕ) → moved k 0 ≡ 0) (more : (k n : ℕ) → moved k (suc n) ≡ rate rates k + moved (suc k) n) where
  -- n firings from number k on move what the first k + n do beyond the first k
  pub total_from : (k n : ℕ) → total rates k + moved k n ≡ total rates (k + n)
  total_from k zero = let e = ap (total rates) (let z : k + 0 ≡ k = omega arith in z) in omega (arith, none k, e)
  total_from k (suc n) =
      let e = ap (total rates) (let z : suc k + n ≡ k + suc n = omega arith in z) in
      omega (arith, more k n, total_from (suc k) n, e)

  pub few_from : ((k : ℕ) → rate rates k ≤ 64) → (k n : ℕ) → moved k n ≤ 64 * n
  few_from small k zero = omega (arith, none k)
  few_from small k (suc n) = omega (arith, more k n, small k, few_from small (suc k) n)

-- where there is one rate, each firing moves as much
pub total_of_one : (rates : List ℕ) (r k n : ℕ) → length rates ≡ 1 → r ≡ get_or rates 0 0 → total rates k + n * r ≡ total rates (k + n)
total_of_one rates r k n one is =
    total_from rates (λ _ m. m * r) (λ _. omega arith)
    (λ j m. (let here : rate rates j ≡ r = ap (λ i. get_or rates i 0) (ap (λ l. j % l) one ∙ mod-one j) ∙ sym is in
    let s = suc-mul m r in omega (arith, here, s))) k n

pub sum_none : (f : ℕ → ℕ) → ((c : ℕ) → f c ≡ 0) → (ns : List ℕ) → sum_by f ns ≡ 0
sum_none f none [] = refl
sum_none f none (c ∷ ns) = omega (arith, sum_by-cons f c ns, none c, sum_none f none ns)

pub sum_adds : (f g h : ℕ → ℕ) → ((c : ℕ) → f c ≡ g c + h c) → (ns : List ℕ) → sum_by f ns ≡ sum_by g ns + sum_by h ns
sum_adds f g h adds [] = omega arith
sum_adds f g h adds (c ∷ ns) =
    omega (arith, sum_by-cons f c ns, sum_by-cons g c ns, sum_by-cons h c ns, adds c, sum_adds f g h adds ns)

-- what n firings take of each input are what they take in all, and so with what they give
module _ (cs : List Channel) (a : ℕ) where
  pub needs_sum : (k n : ℕ) → sum_by (takes_at cs k n) (inputs_at cs a) ≡ needs_of cs a k n
  needs_sum k zero = sum_none (takes_at cs k 0) (λ _. refl) (inputs_at cs a)
  needs_sum k (suc n) =
      omega (
        arith,
        sum_adds (takes_at cs k (suc n)) (take_at cs k) (takes_at cs (suc k) n) (λ _. refl) (inputs_at cs a),
        need_is a k cs,
        needs_sum (suc k) n,
      )

  pub gifts_sum : (k n : ℕ) → sum_by (gives_at cs k n) (outputs_at cs a) ≡ gifts_of cs a k n
  gifts_sum k zero = sum_none (gives_at cs k 0) (λ _. refl) (outputs_at cs a)
  gifts_sum k (suc n) =
      omega (
        arith,
        sum_adds (gives_at cs k (suc n)) (give_at cs k) (gives_at cs (suc k) n) (λ _. refl) (outputs_at cs a),
        gift_is a k cs,
        gifts_sum (suc k) n,
      )

  pub few_gifts_of : ((k : ℕ) → gift a k cs ≤ 8192) → (k n : ℕ) → gifts_of cs a k n ≤ 8192 * n
  few_gifts_of few k zero = omega arith
  few_gifts_of few k (suc n) = omega (arith, few k, few_gifts_of few (suc k) n)
