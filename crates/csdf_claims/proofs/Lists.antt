-- An element that is there, as a read with a default.
use Rattle.std.proofs.Common.{◌≡◌, ℕ, zero, suc, List, [], ◌∷◌, get_or, take, replicate, sym, refl}
use mathlib.Core.Option.{some, some-injective, some-ne-none}
use lib.ListN.{get_elem?}

pub get_at : (xs : List ℕ) (i x : ℕ) → get_elem? xs i ≡ some x → x ≡ get_or xs i 0
get_at [] i x e = absurd (some-ne-none x (sym e))
get_at (y ∷ ys) zero x e = sym (some-injective y x e)
get_at (y ∷ ys) (suc i) x e = get_at ys i x e

-- the front of a row of zeros has nothing but zeros
pub zeros_read : (n k i : ℕ) → get_or (take n (replicate {A = ℕ} k 0)) i 0 ≡ 0
zeros_read zero k i = refl
zeros_read (suc n) zero i = refl
zeros_read (suc n) (suc k) zero = refl
zeros_read (suc n) (suc k) (suc i) = zeros_read n k i
