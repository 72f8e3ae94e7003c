-- The tokens of a firing, at their places in the streams.
use Rattle.std.proofs.Common.{◌≡◌, ℕ, suc, ◌+◌, ◌≤◌, inl, inr, List, [], ◌∷◌, ◌++◌, length, take, drop, map, refl, ap, sym, ◌∙◌, arith}
use Rattle.std.specs.Prelude.{ℤ}
use Rattle.std.specs.List.{zip, flat_map}
use Rattle.std.proofs.lemmas.List.{length-drop, drop_at, take-append-le, drop-append-le, take-take}
use Rattle.std.proofs.lemmas.Bool.Decides.{eqb_tells}
use Rattle.csdf_model.specs.Rates.{rate, total}
use Rattle.csdf_analysis.proofs.CountLemmas.{total_mono}
use Rattle.csdf_core.specs.Plan.{Channel, takes_of, gives_of}
use Rattle.csdf_core.specs.Rows.{shares, cut, taken}
use Rattle.csdf_core.specs.State.{Stream, waiting}
use Rattle.csdf_core.proofs.Tallies.{AreTallied, takes_own, takes_none, gives_own, gives_none}
use Rattle.csdf_core.proofs.Flows.{drained, filled}

-- ---- the tokens of firing number k of actor a, at their places

abbrev pub inputs_at : ℕ → ℕ → List Channel → List Stream → List ℤ
inputs_at a k cs sts = flat_map (λ (row : Channel × Stream). take (takes_of a k row.0) (drop (total row.0.consume k) row.1.written)) (zip cs sts)

abbrev pub outputs_at : ℕ → ℕ → List Channel → List Stream → List (List ℤ)
outputs_at a k cs sts = map (λ (row : Channel × Stream). take (gives_of a k row.0) (drop (length row.0.initial + total row.0.produce k) row.1.written))
    (zip cs sts)

-- what a read takes are these places
pub taken_is : (put got begun : ℕ → ℕ) (a k : ℕ) (cs : List Channel) (sts : List Stream) → got a ≡ k → AreTallied put got begun cs sts
    → taken a k cs (map waiting sts) ≡ inputs_at a k cs sts
taken_is put got begun a k [] sts e t = refl
taken_is put got begun a k (c ∷ cs) [] e t = refl
taken_is put got begun a k (c ∷ cs) (st ∷ sts) e t =
    let rest : taken a k cs (map waiting sts) ≡ inputs_at a k cs sts = taken_is put got begun a k cs sts e t.1 in
    let here : take (takes_of a k c) (drop st.taken st.written) ≡ take (takes_of a k c) (drop (total c.consume k) st.written) = elim (eqb_tells c.to a) [
      | inl own ↦ ap (λ n. take (takes_of a k c) (drop n st.written)) (t.0.taken ∙ ap (λ b. total c.consume (got b)) own.1 ∙ ap (total c.consume) e)
      | inr other ↦ let none = takes_none a k c other.1 in ap (λ n. take n (drop st.taken st.written)) none
          ∙ ap (λ n. take n (drop (total c.consume k) st.written)) (sym none)
    ] in
    ap (λ (xs : List ℤ). xs ++ taken a k cs (map waiting sts)) here
    ∙ ap (λ (xs : List ℤ). take (takes_of a k c) (drop (total c.consume k) st.written) ++ xs) rest

-- taking changes no place
pub inputs-drained : (a k b j : ℕ) (cs : List Channel) (sts : List Stream) → inputs_at b j cs (drained a k cs sts) ≡ inputs_at b j cs sts
inputs-drained a k b j [] sts = refl
inputs-drained a k b j (c ∷ cs) [] = refl
inputs-drained a k b j (c ∷ cs) (st ∷ sts) = ap (λ (xs : List ℤ). take (takes_of b j c) (drop (total c.consume j) st.written)
    ++ xs) (inputs-drained a k b j cs sts)

pub outputs-drained : (a k b j : ℕ) (cs : List Channel) (sts : List Stream) → outputs_at b j cs (drained a k cs sts) ≡ outputs_at b j cs sts
outputs-drained a k b j [] sts = refl
outputs-drained a k b j (c ∷ cs) [] = refl
outputs-drained a k b j (c ∷ cs) (st ∷ sts) = ap (λ (xs : List (List ℤ)). take (gives_of b j c) (drop (length c.initial + total c.produce j) st.written) ∷ xs)
    (outputs-drained a k b j cs sts)

-- a front of a list stays where the list grows
front_stays : (p n : ℕ) (xs ys : List ℤ) → p + n ≤ length xs → take n (drop p (xs ++ ys)) ≡ take n (drop p xs)
front_stays p n xs ys le =
    ap (take n) (drop-append-le p xs ys (omega arith))
    ∙ take-append-le n (drop p xs) ys (let e = length-drop p xs in omega arith)

none_stays : (n p : ℕ) (xs ys : List ℤ) → n ≡ 0 → take n (drop p ys) ≡ take n (drop p xs)
none_stays n p xs ys e = ap (λ m. take m (drop p ys)) e ∙ ap (λ m. take m (drop p xs)) (sym e)

-- a write changes no place of a firing that has begun
pub inputs-filled : (put got begun : ℕ → ℕ) (amount : Channel → ℕ) (v : List ℤ) (b j : ℕ) (cs : List Channel) (sts : List Stream) → length sts ≡ length cs
    → suc j ≤ begun b → AreTallied put got begun cs sts
    → inputs_at b j cs (filled sts (cut amount cs v)) ≡ inputs_at b j cs sts
inputs-filled put got begun amount v b j [] [] len le t = refl
inputs-filled put got begun amount v b j [] (st ∷ sts) len le t = refl
inputs-filled put got begun amount v b j (c ∷ cs) [] len le t = refl
inputs-filled put got begun amount v b j (c ∷ cs) (st ∷ sts) len le t =
    let rest : inputs_at b j cs (filled sts (cut amount cs (drop (amount c) v))) ≡ inputs_at b j cs sts =
    inputs-filled put got begun amount (drop (amount c) v) b j cs sts (omega arith) le t.1 in
    let here : take (takes_of b j c) (drop (total c.consume j) (st.written ++ take (amount c) v))
    ≡ take (takes_of b j c) (drop (total c.consume j) st.written) = elim (eqb_tells c.to b) [
      | inl own ↦
          let some : total c.consume (suc j) ≤ total c.consume (begun c.to) =
          total_mono c.consume (suc j) (begun c.to) (let e = ap begun own.1 in omega arith) in
          let last : total c.consume (suc j) ≡ total c.consume j + rate c.consume j = refl in
          let covered = t.0.covered in
          let takes = takes_own b j c own.1 in
          front_stays (total c.consume j) (takes_of b j c) st.written (take (amount c) v) (omega arith)
      | inr other ↦ none_stays (takes_of b j c) (total c.consume j) st.written (st.written ++ take (amount c) v) (takes_none b j c other.1)
    ] in
    ap (λ (xs : List ℤ). xs ++ inputs_at b j cs (filled sts (cut amount cs (drop (amount c) v)))) here
    ∙ ap (λ (xs : List ℤ). take (takes_of b j c) (drop (total c.consume j) st.written) ++ xs) rest

-- a write changes no place of a firing that was written
pub outputs-filled : (put got begun : ℕ → ℕ) (amount : Channel → ℕ) (v : List ℤ) (b j : ℕ) (cs : List Channel) (sts : List Stream) → length sts ≡ length cs
    → suc j ≤ put b → AreTallied put got begun cs sts
    → outputs_at b j cs (filled sts (cut amount cs v)) ≡ outputs_at b j cs sts
outputs-filled put got begun amount v b j [] [] len le t = refl
outputs-filled put got begun amount v b j [] (st ∷ sts) len le t = refl
outputs-filled put got begun amount v b j (c ∷ cs) [] len le t = refl
outputs-filled put got begun amount v b j (c ∷ cs) (st ∷ sts) len le t =
    let rest : outputs_at b j cs (filled sts (cut amount cs (drop (amount c) v))) ≡ outputs_at b j cs sts =
    outputs-filled put got begun amount (drop (amount c) v) b j cs sts (omega arith) le t.1 in
    let p : ℕ = length c.initial + total c.produce j in
    let here : take (gives_of b j c) (drop p (st.written ++ take (amount c) v)) ≡ take (gives_of b j c) (drop p st.written) = elim (eqb_tells c.from b) [
      | inl own ↦
          let some : total c.produce (suc j) ≤ total c.produce (put c.from) = total_mono c.produce (suc j) (put c.from) (let e = ap put own.1 in omega arith) in
          let last : total c.produce (suc j) ≡ total c.produce j + rate c.produce j = refl in
          let all = t.0.written in
          let gives = gives_own b j c own.1 in
          front_stays p (gives_of b j c) st.written (take (amount c) v) (omega arith)
      | inr other ↦ none_stays (gives_of b j c) p st.written (st.written ++ take (amount c) v) (gives_none b j c other.1)
    ] in
    ap (λ (xs : List ℤ). xs ∷ outputs_at b j cs (filled sts (cut amount cs (drop (amount c) v)))) here
    ∙ ap (λ (xs : List (List ℤ)). take (gives_of b j c) (drop p st.written) ∷ xs) rest

-- what is written stands at the places of its firing
pub outputs_new : (put got begun : ℕ → ℕ) (v : List ℤ) (a k : ℕ) (cs : List Channel) (sts : List Stream) → length sts ≡ length cs → put a ≡ k
    → AreTallied put got begun cs sts
    → outputs_at a k cs (filled sts (shares a k cs v)) ≡ shares a k cs v
outputs_new put got begun v a k [] [] len e t = refl
outputs_new put got begun v a k [] (st ∷ sts) len e t = refl
outputs_new put got begun v a k (c ∷ cs) [] len e t = absurd (omega arith)
outputs_new put got begun v a k (c ∷ cs) (st ∷ sts) len e t =
    let n : ℕ = gives_of a k c in
    let rest : outputs_at a k cs (filled sts (shares a k cs (drop n v))) ≡ shares a k cs (drop n v) =
    outputs_new put got begun (drop n v) a k cs sts (omega arith) e t.1 in
    let p : ℕ = length c.initial + total c.produce k in
    let same : n ≤ n = omega arith in
    let here : take n (drop p (st.written ++ take n v)) ≡ take n v = elim (eqb_tells c.from a) [
      | inl own ↦
          let all : length st.written ≡ p = t.0.written ∙ ap (λ b. length c.initial + total c.produce (put b)) own.1
          ∙ ap (λ m. length c.initial + total c.produce m) e in
          ap (take n) (drop_at st.written (take n v) p all) ∙ take-take n n v same
      | inr other ↦ let none : n ≡ 0 = gives_none a k c other.1 in ap (λ m. take m (drop p (st.written ++ take n v))) none ∙ ap (λ m. take m v) (sym none)
    ] in
    ap (λ (xs : List ℤ). xs ∷ outputs_at a k cs (filled sts (shares a k cs (drop n v)))) here ∙ ap (λ (xs : List (List ℤ)). take n v ∷ xs) rest
