-- Sums of rates, cycle by cycle.
use Rattle.std.proofs.Common.{◌≡◌, ℕ, zero, suc, ◌+◌, ◌*◌, ◌/◌, ◌%◌, ◌^◌, ◌<◌, ◌≤◌, List, [], length, take, get_or, sum, refl, sym, ap, ◌∙◌, arith, mul-le-mul}
use Rattle.std.proofs.Math.Seq.{take-suc}
use Rattle.std.proofs.Math.Nat.{mod-eq_of_lt, mul-add-mod_self_left, div-add-mod, mod-lt, mul-suc}
use Rattle.std.proofs.lemmas.List.{take_all}
use Rattle.std.proofs.lemmas.List.Sums.{sum_by_push}
use Rattle.csdf_model.specs.Rates.{rate, total}

pub total_none : (n : ℕ) → total [] n ≡ 0
total_none zero = refl
total_none (suc n) = let rest : total [] n ≡ 0 = total_none n in omega arith

-- within the first cycle
pub total_front : (rates : List ℕ) (n : ℕ) → n ≤ length rates → total rates n ≡ sum (take n rates)
total_front rates zero le = refl
total_front rates (suc n) le =
    let before : total rates n ≡ sum (take n rates) = total_front rates n (omega arith) in
    let place : n % length rates ≡ n = mod-eq_of_lt {n = n} {m = length rates} (omega arith) in
    let last : rate rates n ≡ get_or rates n 0 = ap (λ k. get_or rates k 0) place in
    let push : sum (take (suc n) rates) ≡ sum (take n rates) + get_or rates n 0 = ap sum (take-suc rates n 0 (omega arith))
    ∙ sum_by_push (λ x. x) (take n rates) (get_or rates n 0) in
    omega arith

-- after whole cycles it begins anew
pub total_after : (rates : List ℕ) (k m : ℕ) → total rates (length rates * k + m) ≡ total rates (length rates * k) + total rates m
total_after rates k zero = let e : length rates * k + 0 ≡ length rates * k = omega arith in ap (total rates) e
    ∙ sym (let z : total rates (length rates * k) + 0 ≡ total rates (length rates * k) = omega arith in z)
total_after rates k (suc m) =
    let before : total rates (length rates * k + m) ≡ total rates (length rates * k) + total rates m = total_after rates k m in
    let next : length rates * k + suc m ≡ suc (length rates * k + m) = omega arith in
    let place : rate rates (length rates * k + m) ≡ rate rates m = ap (λ j. get_or rates j 0) (mul-add-mod_self_left (length rates) k m) in
    let whole : total rates (length rates * k + suc m) ≡ total rates (length rates * k + m) + rate rates (length rates * k + m) = ap (total rates) next in
    omega arith

pub total_cycles : (rates : List ℕ) (k : ℕ) → total rates (length rates * k) ≡ sum rates * k
total_cycles rates zero = let e : length rates * 0 ≡ 0 = omega arith in ap (total rates) e ∙ (let z : 0 ≡ sum rates * 0 = omega arith in z)
total_cycles rates (suc k) =
    let before : total rates (length rates * k) ≡ sum rates * k = total_cycles rates k in
    let next : length rates * suc k ≡ length rates * k + length rates = omega (arith, mul-suc (length rates) k) in
    let cycle : total rates (length rates) ≡ sum rates = total_front rates (length rates) (omega arith)
    ∙ ap sum (take_all (length rates) rates (omega arith)) in
    let whole : total rates (length rates * suc k) ≡ total rates (length rates * k) + total rates (length rates) = ap (total rates) next
    ∙ total_after rates k (length rates) in
    omega (arith, mul-suc (sum rates) k)

-- so many whole cycles, and the front of one
pub total_split : (rates : List ℕ) (n : ℕ) → 0 < length rates → total rates n ≡ sum rates * (n / length rates) + sum (take (n % length rates) rates)
total_split rates n some =
    let rest : n % length rates < length rates = mod-lt n {m = length rates} some in
    let parts : total rates n ≡ total rates (length rates * (n / length rates) + n % length rates) = ap (total rates) (sym (div-add-mod n (length rates))) in
    let one : total rates (length rates * (n / length rates)) ≡ sum rates * (n / length rates) = total_cycles rates (n / length rates) in
    let two : total rates (n % length rates) ≡ sum (take (n % length rates) rates) = total_front rates (n % length rates) (omega arith) in
    let both = total_after rates (n / length rates) (n % length rates) in
    omega arith

-- a sum of so many rates of 32 bits
pub split_within : (n len cycle rest : ℕ) → n < 2 ^ 32 → cycle ≤ len * 4294967295 → rest ≤ (n % len) * 4294967295 → cycle * (n / len) + rest < 2 ^ 64
split_within n len cycle rest small first second =
    let product : cycle * (n / len) ≤ (len * 4294967295) * (n / len) = mul-le-mul first (let same : n / len ≤ n / len = omega arith in same) in
    let order : (len * 4294967295) * (n / len) ≡ (len * (n / len)) * 4294967295 = grind arith in
    let parts : len * (n / len) + n % len ≡ n = div-add-mod n len in
    let sum : (len * (n / len)) * 4294967295 + (n % len) * 4294967295 ≡ n * 4294967295 = grind (arith, parts) in
    omega arith
