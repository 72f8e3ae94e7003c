-- The number that digits write, digit by digit.
use Rattle.std.proofs.Common.{◌≡◌, Bool, true, false, ◌-◌, ℕ, ◌+◌, ◌*◌, ◌<◌, ◌≤◌, List, [], ◌∷◌, length, get_or, drop, refl, sym, ◌∙◌, arith, add-one}
use Rattle.std.proofs.Common.{drop-cons}
use Rattle.std.specs.Char.{digit_value, is_ascii_digit}
use Rattle.std.specs.List.{list_all}
use Rattle.std.proofs.lemmas.Bool.Decides.{nat_tests}
use Rattle.std.proofs.lemmas.List.Folds.{list_all_at}
use Rattle.std.specs.Str.Parse.{digits_value, digits_value_after}

-- more digits make no number smaller
pub digits_value_after-le : (n : ℕ) (ds : List ℕ) → n ≤ digits_value_after 10 n ds
digits_value_after-le n [] = omega arith
digits_value_after-le n (c ∷ cs) = let more = digits_value_after-le (n * 10 + digit_value c) cs in omega (arith, more)

-- the next digit
pub digits_value_after-step : (ds : List ℕ) (n i : ℕ) → i < length ds
    → digits_value_after 10 n (drop i ds) ≡ digits_value_after 10 (n * 10 + digit_value (get_or ds i 0)) (drop (i + 1) ds)
digits_value_after-step ds n i within = rw (add-one, drop-cons ds i 0) refl

pub unless_false : (b : Bool) → (b ≡ false → ⊥) → b ≡ true
unless_false true h = refl
unless_false false h = absurd (h refl)

-- the number of a digit
pub digit_value-digit : (c : ℕ) → is_ascii_digit c ≡ true → (digit_value c ≡ c - 48) × (48 ≤ c) × (c ≤ 57)
digit_value-digit c h = grind (arith, nat_tests)

-- one among digits
pub digit_among : (ds : List ℕ) (i : ℕ) → list_all is_ascii_digit ds ≡ true → i < length ds → is_ascii_digit (get_or ds i 0) ≡ true
digit_among ds i h within = unless_false _ (λ no. let all = list_all_at is_ascii_digit ds i 0 within no in let e : true ≡ false = sym h ∙ all in cc)

pub digit_value-among : (ds : List ℕ) (i : ℕ) → list_all is_ascii_digit ds ≡ true → i < length ds → digit_value (get_or ds i 0) ≡ get_or ds i 0 - 48
digit_value-among ds i h within = (digit_value-digit (get_or ds i 0) (digit_among ds i h within)).0

-- a number that its next digit makes too large
pub too_large : (ds : List ℕ) (n i most : ℕ) → i < length ds → digits_value 10 ds ≡ digits_value_after 10 n (drop i ds)
    → most ≤ n * 10 + digit_value (get_or ds i 0) → most ≤ digits_value 10 ds
too_large ds n i most within is large =
    let step = digits_value_after-step ds n i within in
    let more = digits_value_after-le (n * 10 + digit_value (get_or ds i 0)) (drop (i + 1) ds) in omega (arith, is, step, more)
