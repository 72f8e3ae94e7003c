-- A vector's elements after a write through a slice of them, and a look-up's default.
use Rattle.std.proofs.Common.{◌≡◌, ℕ, zero, suc, ◌<◌, List, [], ◌∷◌, ◌++◌, length, get_or, take, refl, arith, ◌∙◌}
use Rattle.std.proofs.Common.{Bool, false, ◌==◌}
use Rattle.std.proofs.lemmas.Bool.Decides.{nat_tests}
use Rattle.std.proofs.lemmas.List.{take-append-le, take_all}

-- all of the elements are written
pub written_back : {A : Type 0} (n : ℕ) (new rest : List A) → length new ≡ n → take n (new ++ rest) ≡ new
written_back n new rest size = take-append-le n new rest (omega arith) ∙ take_all n new (omega arith)

-- at a place in the list the default does not matter
pub get_or-default : {A : Type 0} (xs : List A) (i : ℕ) (d e : A) → i < length xs → get_or xs i d ≡ get_or xs i e
get_or-default [] i d e h = absurd (omega (arith, h))
get_or-default (x ∷ xs) zero d e h = refl
get_or-default (x ∷ xs) (suc i) d e h = get_or-default xs i d e (omega (arith, h))

-- what is not empty has some
pub some_of : (n : ℕ) (empty : Bool) → empty ≡ (n == 0) → empty ≡ false → 0 < n
some_of n empty is not_empty = grind (arith, nat_tests)
