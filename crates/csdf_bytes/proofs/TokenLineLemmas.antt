-- The digits of a number, two by two from the last.
use Rattle.std.proofs.Common.{◌≡◌, ℕ, ◌+◌, ◌-◌, ◌/◌, ◌%◌, ◌^◌, ◌<◌, ◌≤◌, List, [], ◌∷◌, ◌++◌, length, drop, set, ◌≢◌, ◌∙◌, ap, arith, append_assoc, length-append, lit<}
use Rattle.std.proofs.lemmas.List.{drop-set, drop-set-lt, drop_more, get_or-set_other, get_or-set_same, length-set}
use Rattle.std.specs.Fmt.{decimal}
use Rattle.std.proofs.lemmas.Fmt.{decimal_digit, decimal_step, length-decimal-le}

wide : (n : ℕ) → n < 2 ^ 32 → n < 2 ^ 64
wide n small = omega (arith, lit< {m = 2 ^ 32} {n = 2 ^ 64} tt)

tenth-small : (n : ℕ) → n < 2 ^ 32 → n / 10 < 2 ^ 32
tenth-small n small = omega arith

tenth-tenth : (n : ℕ) → n / 10 / 10 ≡ n / 100
tenth-tenth n = omega arith

tens : (n : ℕ) → n / 10 % 10 ≡ n % 100 / 10
tens n = omega arith

ones : (n : ℕ) → n % 10 ≡ n % 100 % 10
ones n = omega arith

-- a number from a hundred on
pub decimal-pair : (n : ℕ) → 100 ≤ n → n < 2 ^ 32 → decimal n ≡ decimal (n / 100) ++ ((48 + n % 100 / 10) ∷ (48 + n % 100 % 10) ∷ [])
decimal-pair n large small =
    let less : n / 10 < 2 ^ 64 = wide (n / 10) (tenth-small n small) in
    decimal_step n (omega (arith, large)) (wide n small)
    ∙ ap (λ front. front ++ ((48 + n % 10) ∷ [])) (decimal_step (n / 10) (omega (arith, large)) less)
    ∙ append_assoc (decimal (n / 10 / 10)) ((48 + n / 10 % 10) ∷ []) ((48 + n % 10) ∷ [])
    ∙ ap (λ k. decimal k ++ ((48 + n / 10 % 10) ∷ (48 + n % 10) ∷ [])) (tenth-tenth n)
    ∙ ap (λ k. decimal (n / 100) ++ ((48 + k) ∷ (48 + n % 10) ∷ [])) (tens n)
    ∙ ap (λ k. decimal (n / 100) ++ ((48 + n % 100 / 10) ∷ (48 + k) ∷ [])) (ones n)

-- a number of two digits
pub decimal-two : (n : ℕ) → 10 ≤ n → n < 100 → decimal n ≡ (48 + n / 10) ∷ (48 + n % 10) ∷ []
decimal-two n large small =
    decimal_step n large (omega (arith, small, lit< {m = 100} {n = 2 ^ 64} tt))
    ∙ ap (λ front. front ++ ((48 + n % 10) ∷ [])) (decimal_digit (n / 10) (omega (arith, small)))

-- two digits go to the front of what is written
pub digits-pair : (number rest : ℕ) (after written : List ℕ) → 100 ≤ rest → rest < 2 ^ 32 → decimal number ++ after ≡ decimal rest ++ written
    → decimal number ++ after ≡ decimal (rest / 100) ++ ((48 + rest % 100 / 10) ∷ (48 + rest % 100 % 10) ∷ written)
digits-pair number rest after written large small so_far =
    so_far ∙ ap (λ digits. digits ++ written) (decimal-pair rest large small)
    ∙ append_assoc (decimal (rest / 100)) ((48 + rest % 100 / 10) ∷ (48 + rest % 100 % 10) ∷ []) written

-- and the digits that are left are two fewer
pub length-pair : (rest : ℕ) → 100 ≤ rest → rest < 2 ^ 32 → length (decimal rest) ≡ length (decimal (rest / 100)) + 2
length-pair rest large small = ap length (decimal-pair rest large small) ∙ length-append (decimal (rest / 100)) _

-- a number of 32 bits has ten digits at most
pub length-decimal-32 : (n : ℕ) → n < 2 ^ 32 → length (decimal n) ≤ 10
length-decimal-32 n small = length-decimal-le 10 n (lit< tt) (omega (arith, lit< {m = 2 ^ 32} {n = 10 ^ 10} tt))
    (omega (arith, lit< {m = 2 ^ 32} {n = 2 ^ 64} tt))

-- two bytes that were put at a place
pub put-two : (xs : List ℕ) (i x y : ℕ) → i + 2 ≤ length xs → drop i (set (set xs i x) (i + 1) y) ≡ x ∷ y ∷ drop (i + 2) xs
put-two xs i x y within =
    let other : i ≢ i + 1 = omega arith in
    let here : i < length xs = omega (arith, within) in
    let next : i + 1 < length (set xs i x) = omega (arith, within, length-set xs i x) in
    let all : i < length (set (set xs i x) (i + 1) y) = omega (arith, within, length-set xs i x, length-set (set xs i x) (i + 1) y) in
    drop_more (set (set xs i x) (i + 1) y) i 0 all
    ∙ ap (λ first. first ∷ drop (i + 1) (set (set xs i x) (i + 1) y)) (get_or-set_other (set xs i x) (i + 1) i y 0 other ∙ get_or-set_same xs i x 0 here)
    ∙ ap (λ rest. x ∷ rest) (drop-set (set xs i x) (i + 1) y next)
    ∙ ap (λ k. x ∷ y ∷ drop k (set xs i x)) (let two : i + 1 + 1 ≡ i + 2 = omega arith in two)
    ∙ ap (λ rest. x ∷ y ∷ rest) (drop-set-lt (i + 2) xs i x (omega arith))

-- one byte that was put before a place
pub put-one : (xs : List ℕ) (end x : ℕ) → 0 < end → end ≤ length xs → drop (end - 1) (set xs (end - 1) x) ≡ x ∷ drop end xs
put-one xs end x some within =
    drop-set xs (end - 1) x (omega (arith, some, within))
    ∙ ap (λ k. x ∷ drop k xs) (let back : (end - 1) + 1 ≡ end = omega (arith, some) in back)
