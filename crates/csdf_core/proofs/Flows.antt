-- Taking from and writing to streams, and to the tokens that wait in them.
use Rattle.std.proofs.Common.{◌≡◌, ℕ, ◌+◌, ◌≤◌, List, [], ◌∷◌, ◌++◌, length, map, drop, refl, sym, arith}
use Rattle.std.specs.Prelude.{ℤ}
use Rattle.std.specs.List.{zip, AllByRecursion}
use Rattle.std.proofs.lemmas.List.{drop-drop, drop-append-le, length-drop, length-append}
use Rattle.csdf_core.specs.Plan.{Channel}
use Rattle.csdf_core.specs.Plan.{takes_of}
use Rattle.csdf_core.specs.Rows.{left, joined, AreThere}
use Rattle.csdf_core.specs.State.{Stream, waiting}
use Rattle.csdf_core.specs.Step.{take_out, put_in}

-- the streams after the firing took its tokens
abbrev pub drained : ℕ → ℕ → List Channel → List Stream → List Stream
drained a k cs sts = map (λ (row : Channel × Stream). take_out (takes_of a k row.0) row.1) (zip cs sts)

abbrev pub filled : List Stream → List (List ℤ) → List Stream
filled sts parts = map (λ (pair : Stream × List ℤ). put_in pair.1 pair.0) (zip sts parts)

abbrev pub AreLawful : List Stream → Type 0
AreLawful sts = AllByRecursion (λ (stream : Stream). stream.taken ≤ length stream.written) sts

pub waiting-drained : (a k : ℕ) (cs : List Channel) (sts : List Stream) → map waiting (drained a k cs sts) ≡ left a k cs (map waiting sts)
waiting-drained a k [] sts = refl
waiting-drained a k (c ∷ cs) [] = refl
waiting-drained a k (c ∷ cs) (s ∷ sts) =
    let here : drop (s.taken + takes_of a k c) s.written ≡ drop (takes_of a k c) (drop s.taken s.written) =
    sym (drop-drop (takes_of a k c) s.taken s.written) in
    let rest = waiting-drained a k cs sts in cc

pub lawful-drained : (a k : ℕ) (cs : List Channel) (sts : List Stream) → AreThere a k cs (map waiting sts) → AreLawful sts → AreLawful (drained a k cs sts)
lawful-drained a k [] sts there l = tt
lawful-drained a k (c ∷ cs) [] there l = tt
lawful-drained a k (c ∷ cs) (s ∷ sts) there l = (omega (arith, length-drop s.taken s.written, there.0, l.0), lawful-drained a k cs sts there.1 l.1)

pub waiting-filled : (sts : List Stream) (parts : List (List ℤ)) → AreLawful sts → map waiting (filled sts parts) ≡ joined (map waiting sts) parts
waiting-filled [] parts l = refl
waiting-filled (s ∷ sts) [] l = refl
waiting-filled (s ∷ sts) (v ∷ parts) l =
    let here : drop s.taken (s.written ++ v) ≡ drop s.taken s.written ++ v = drop-append-le s.taken s.written v l.0 in
    let rest = waiting-filled sts parts l.1 in cc

pub lawful-filled : (sts : List Stream) (parts : List (List ℤ)) → AreLawful sts → AreLawful (filled sts parts)
lawful-filled [] parts l = tt
lawful-filled (s ∷ sts) [] l = tt
lawful-filled (s ∷ sts) (v ∷ parts) l = (omega (arith, length-append s.written v, l.0), lawful-filled sts parts l.1)
