-- A block of firings is its moves, one after another.
use Rattle.std.proofs.Common.{◌≡◌, ℕ, suc, ◌+◌, ◌≤◌}
use Rattle.std.proofs.Common.{arith, Option, Some, None}
use Rattle.std.specs.Prelude.{IfSome}
use Rattle.csdf_core.proofs.BlockMachines.{Machine}

pub fewer : (o : Option ℕ) (b c n : ℕ) → c ≡ b + 1 → IfSome o (λ most. b + suc n ≤ most) → IfSome o (λ most. c + n ≤ most)
fewer None b c n e h = tt
fewer (Some most) b c n e h = omega (arith, e, h)

pub machine_same : (m other : Machine) → m.now ≡ other.now → m.peaks ≡ other.peaks → m.sums ≡ other.sums → m.started ≡ other.started → m.kept ≡ other.kept
    → m.pool ≡ other.pool → m ≡ other
machine_same m other e1 e2 e3 e4 e5 e6 = λ i. record { now = e1 i; peaks = e2 i; sums = e3 i; started = e4 i; kept = e5 i; pool = e6 i }
