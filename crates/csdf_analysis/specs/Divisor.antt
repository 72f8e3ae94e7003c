-- The greatest common divisor.
use Rattle.std.specs.Prelude.{ℕ, ◌*◌}
use Rattle.std.specs.Int.{◌∣◌}

-- a number divides both, and what divides the same multiple of either divides that multiple of the number
pub record IsGreatestDivisor (a b g : ℕ) : Type 0 where
  pub first : g ∣ a
  pub second : g ∣ b
  pub greatest : (m d : ℕ) → d ∣ m * a → d ∣ m * b → d ∣ m * g
