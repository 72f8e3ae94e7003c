-- What a read hands out.
use Rattle.std.proofs.Common.{◌≡◌, ℕ, List, [], ◌∷◌, ◌++◌, length, take, drop, refl, ap, ◌∙◌, sym, arith}
use Rattle.std.specs.Prelude.{ℤ}
use Rattle.std.proofs.lemmas.List.{length-append, length-take-le, take_at}
use Rattle.std.proofs.lemmas.List.Sums.{sum_by-cons}
use Rattle.csdf_core.specs.Plan.{Channel}
use Rattle.csdf_core.specs.Plan.{takes_of}
use Rattle.csdf_core.specs.Rows.{taken, need, AreThere}

pub length-taken : (a k : ℕ) (cs : List Channel) (ts : List (List ℤ)) → length ts ≡ length cs → AreThere a k cs ts → length (taken a k cs ts) ≡ need a k cs
length-taken a k [] ts e there = refl
length-taken a k (c ∷ cs) [] e there = absurd (omega arith)
length-taken a k (c ∷ cs) (t ∷ ts) e there =
    omega (
      arith,
      length-append (take (takes_of a k c) t) (taken a k cs ts),
      length-take-le (takes_of a k c) t there.0,
      length-taken a k cs ts (omega arith) there.1,
      sum_by-cons (takes_of a k) c cs,
    )

pub answered_taken : (a k n : ℕ) (cs : List Channel) (ts : List (List ℤ)) (into old : List ℤ) → length ts ≡ length cs → AreThere a k cs ts → n ≡ need a k cs
    → into ≡ taken a k cs ts ++ drop n old → take n into ≡ taken a k cs ts
answered_taken a k n cs ts into old e there is made = ap (take n) made ∙ take_at (taken a k cs ts) (drop n old) n (length-taken a k cs ts e there ∙ sym is)
