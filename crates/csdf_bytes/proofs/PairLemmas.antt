-- The table of the pairs of digits.
use Rattle.std.proofs.Common.{◌≡◌, ℕ, ◌+◌, ◌*◌, ◌/◌, ◌%◌, ◌<◌, Bool, true, get_or, refl}
use Prim.Native.Nat.{zero, suc}
use Rattle.std.specs.Prelude.{nat_eq, ◌&&◌}
use Rattle.std.proofs.lemmas.Bool.Decides.{Decides-and, Decides-below_and, Decides-eqb}
use Rattle.csdf_bytes.specs.declared.token_line.TheConstants.{PAIRS}

-- a pair is that of its number
abbrev is_pair : ℕ → Bool
is_pair n = nat_eq (get_or PAIRS (2 * n) 0) (48 + n / 10) && nat_eq (get_or PAIRS (2 * n + 1) 0) (48 + n % 10)

abbrev are_pairs : ℕ → Bool
are_pairs zero = true
are_pairs (suc n) = is_pair n && are_pairs n

pub pair-digits : (n : ℕ) → n < 100 → (get_or PAIRS (2 * n) 0 ≡ 48 + n / 10) × (get_or PAIRS (2 * n + 1) 0 ≡ 48 + n % 10)
pair-digits n small =
    (Decides-below_and is_pair (λ k. (get_or PAIRS (2 * k) 0 ≡ 48 + k / 10) × (get_or PAIRS (2 * k + 1) 0 ≡ 48 + k % 10)) are_pairs
    (λ k. Decides-and (nat_eq (get_or PAIRS (2 * k) 0) (48 + k / 10)) (nat_eq (get_or PAIRS (2 * k + 1) 0) (48 + k % 10))
    (Decides-eqb (get_or PAIRS (2 * k) 0) (48 + k / 10)) (Decides-eqb (get_or PAIRS (2 * k + 1) 0) (48 + k % 10)))
    refl (λ _. refl) 100).0 refl n small
