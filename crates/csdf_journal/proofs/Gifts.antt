-- The moves of firings, by how many tokens each writes.
use Rattle.std.proofs.Common.{ℕ, zero, suc, ◌≡◌, List, ◌∷◌, length, refl, ap, drop, take}
use Rattle.std.specs.Prelude.{ℤ}
use Rattle.csdf_core.specs.Blocks.{firings_of}
use Rattle.csdf_core.specs.Moves.{Move}
use Rattle.csdf_core.specs.Moves.{Begin, Read, Write, Finish}
use Rattle.csdf_core.specs.Plan.{Channel}
use Rattle.csdf_core.specs.Rows.{gift}
use Rattle.csdf_journal.specs.Noted.{gifts_from, moves_by}

pub length_gifts : (cs : List Channel) (a k n : ℕ) → length (gifts_from cs a k n) ≡ n
length_gifts cs a k zero = refl
length_gifts cs a k (suc n) = ap suc (length_gifts cs a (suc k) n)

pub moves_are : (cs : List Channel) (a k n : ℕ) (v : List ℤ) → moves_by a (gifts_from cs a k n) v ≡ firings_of cs a k n v
moves_are cs a k zero v = refl
moves_are cs a k (suc n) v =
    let g : ℕ = gift a k cs in
    ap (λ (ms : List Move). Begin a ∷ Read a ∷ Write a (take g v) ∷ Finish a ∷ ms) (moves_are cs a (suc k) n (drop g v))
