-- Euclid's steps, and how two numbers with one multiple are made of their parts.
use Rattle.std.proofs.Common.{◌≡◌, ℕ, zero, suc, ◌+◌, ◌*◌, ◌/◌, ◌%◌, ◌<◌, sym, ap, subst, ◌∙◌, arith}
use Rattle.std.specs.Int.{◌∣◌}
use Rattle.std.proofs.Math.Nat.{dvd-mod_iff, div-mul_cancel, div-add-mod, dvd-mul_left, dvd-mul_right_of_dvd, dvd-add_iff_right, dvd_of_mul-dvd-mul_right}
use Rattle.std.proofs.Math.Nat.{mul-div_cancel, mul_comm}
use Rattle.std.proofs.lemmas.Nat.Gcd.{dvd_refl, dvd-zero}
use Rattle.csdf_analysis.specs.Divisor.{IsGreatestDivisor}

-- a divisor of the same multiple of two numbers divides that of the remainder
divides_rest : (a b m d : ℕ) → d ∣ m * a → d ∣ m * b → d ∣ m * (a % b)
divides_rest a b m d p q =
    let parts : b * (a / b) + a % b ≡ a = div-add-mod a b in
    let whole : m * a ≡ m * b * (a / b) + m * (a % b) = grind (arith, parts) in
    let front : d ∣ m * b * (a / b) = dvd-mul_right_of_dvd d q (a / b) in
    (dvd-add_iff_right d front).1 (subst (λ n. d ∣ n) whole p)

pub divisor_from_zero : (a b : ℕ) → b ≡ 0 → IsGreatestDivisor a b a
divisor_from_zero a b e = record {
  first = dvd_refl a;
  second = subst (λ n. a ∣ n) (sym e) (dvd-zero a);
  greatest = λ m d p q. p;
}

-- one step by a remainder
pub divisor_from_rest : (a b g : ℕ) → IsGreatestDivisor b (a % b) g → IsGreatestDivisor a b g
divisor_from_rest a b g h = record {
  first = (dvd-mod_iff g h.first).0 h.second;
  second = h.first;
  greatest = λ m d p q. h.greatest m d q (divides_rest a b m d p q);
}

some_factor : (x g b : ℕ) → x * g ≡ b → 0 < b → 0 < g
some_factor x zero b e some = let none : x * 0 ≡ 0 = omega arith in absurd (omega arith)
some_factor x (suc g) b e some = omega arith

-- the parts of two numbers make one product with the other number
cross : (x y g a b : ℕ) → x * g ≡ b → y * g ≡ a → a * x ≡ b * y
cross x y g a b of_b of_a =
    ap (λ n. n * x) (sym of_a) ∙ (let order : (y * g) * x ≡ (x * g) * y = omega arith in order) ∙ ap (λ n. n * y) of_b

cancel : (m n b : ℕ) → 0 < b → m * b ≡ n * b → m ≡ n
cancel m n b some same = sym (mul-div_cancel m some) ∙ ap (λ k. k / b) same ∙ mul-div_cancel n some

pub cancel_left : (b m n : ℕ) → 0 < b → b * m ≡ b * n → m ≡ n
cancel_left b m n some same = cancel m n b some (mul_comm m b ∙ same ∙ mul_comm b n)

rest_of_parts : (x y g a b m n j : ℕ) → x * g ≡ b → y * g ≡ a → 0 < b → m * a ≡ n * b → m ≡ j * x → n ≡ j * y
rest_of_parts x y g a b m n j of_b of_a some same first =
    let one : (j * y) * b ≡ j * (b * y) = omega arith in
    let two : j * (a * x) ≡ (j * x) * a = omega arith in
    cancel n (j * y) b some (sym (one ∙ ap (λ k. j * k) (sym (cross x y g a b of_b of_a)) ∙ two ∙ ap (λ k. k * a) (sym first) ∙ same))

-- two numbers in the ratio of b to a are one multiple of the parts that the divisor leaves of b and a
pub parts_of_multiples : (a b g m n : ℕ) → IsGreatestDivisor a b g → 0 < b → m * a ≡ n * b → (j : ℕ) × (m ≡ j * (b / g)) × (n ≡ j * (a / g))
parts_of_multiples a b g m n h some same =
    let x = b / g in
    let y = a / g in
    let of_b : x * g ≡ b = div-mul_cancel g h.second in
    let of_a : y * g ≡ a = div-mul_cancel g h.first in
    let divides : b ∣ m * g = h.greatest m b (subst (λ k. b ∣ k) (sym same) (dvd-mul_left b n)) (dvd-mul_left b m) in
    let part : x ∣ m = dvd_of_mul-dvd-mul_right x (some_factor x g b of_b some) (subst (λ k. k ∣ m * g) (sym of_b) divides) in
    let first : m ≡ (m / x) * x = sym (div-mul_cancel x part) in
    (m / x, first, rest_of_parts x y g a b m n (m / x) of_b of_a some same first)

-- the parts that the divisor leaves make one product with either number
pub parts_balance : (a b g : ℕ) → IsGreatestDivisor a b g → a * (b / g) ≡ b * (a / g)
parts_balance a b g h = cross (b / g) (a / g) g a b (div-mul_cancel g h.second) (div-mul_cancel g h.first)

-- they are at least 1
pub part_some : (b g : ℕ) → g ∣ b → 0 < b → 0 < b / g
part_some b g h some = some_factor g (b / g) b (mul_comm g (b / g) ∙ div-mul_cancel g h) some

pub divisor_some : (b g : ℕ) → g ∣ b → 0 < b → 0 < g
divisor_some b g h some = some_factor (b / g) g b (div-mul_cancel g h) some
