-- Whether numbers differ, seen by their bits, and differences that wrap.
use Rattle.std.proofs.Common.{◌≡◌, ℕ, ◌+◌, ◌-◌, ◌%◌, ◌^◌, ◌<◌, ap₂, arith, ◌∙◌, sym}
use Rattle.std.proofs.lemmas.Nat.{le_or_l, le_or_r, and_le_l, and_le_r}
use Rattle.std.specs.Int.Bits.{bit_or, bit_xor, xor_add_and, xor_self, or_zero_l}

-- no bit is set, and the two numbers have the same ones
pub same_if_none : (d x y : ℕ) → bit_or d (bit_xor x y) ≡ 0 → (d ≡ 0) × (x ≡ y)
same_if_none d x y none =
    let apart : bit_xor x y ≡ 0 = omega (arith, none, le_or_r d (bit_xor x y)) in
    (omega (arith, none, le_or_l d (bit_xor x y)), omega (arith, apart, xor_add_and x y, and_le_l x y, and_le_r x y))

pub none_if_same : (d x y : ℕ) → d ≡ 0 → x ≡ y → bit_or d (bit_xor x y) ≡ 0
none_if_same d x y none same = ap₂ (λ a b. bit_or a (bit_xor x b)) none (sym same) ∙ or_zero_l (bit_xor x x) ∙ xor_self x

-- a number less i, as a `u32` that wraps, is y where the number is y + i
pub ahead_by : (x i y sum : ℕ) → x < 2 ^ 32 → sum < 2 ^ 32 → y + i ≡ sum → (x + (2 ^ 32 - i)) % 2 ^ 32 ≡ y → x ≡ sum
ahead_by x i y sum fits small adds is = omega (arith, fits, small, adds, is)

pub back_by : (x i y sum : ℕ) → sum < 2 ^ 32 → y + i ≡ sum → x ≡ sum → (x + (2 ^ 32 - i)) % 2 ^ 32 ≡ y
back_by x i y sum small adds is = omega (arith, small, adds, is)
