-- Where a firing has the tokens of its actor's channels to itself.
use Rattle.std.proofs.Common.{◌≡◌, ℕ, zero, suc, ◌+◌, ◌<◌, ◌≤◌, inl, inr, List, [], ◌∷◌, ◌++◌, length, get_or, take, drop}
use Rattle.std.proofs.Common.{refl, ap, ap₂, subst, ◌∙◌, sym, arith}
use Rattle.std.specs.Prelude.{sum_by}
use Rattle.std.proofs.lemmas.Bool.Decides.{eqb_tells}
use Rattle.std.proofs.lemmas.List.{get_or_push, get_or_append_left}
use Rattle.std.proofs.lemmas.List.Sums.{sum_by-cons}
use Rattle.csdf_core.specs.declared.own_places.OwnPlace.{OwnPlace}
use Rattle.csdf_core.specs.Own.{ArePlaced, IsPlaced}
use Rattle.csdf_core.specs.Phases.{HasPhases}
use Rattle.csdf_core.specs.Plan.{Channel}
use Rattle.csdf_core.specs.Ports.{inputs_at}
use Rattle.csdf_core.proofs.BlockReads.{enough_at, same_slot}
use Rattle.csdf_core.proofs.OwnChannels.{ins_there}
use Rattle.csdf_core.proofs.Shares.{share_stays}

-- a fact of each item so far, and of one more
pub each_more : {X : Type 0} (P : ℕ → X → Type 0) (xs ys : List X) (x : X) (i : ℕ) → length xs ≡ i → ((j : ℕ) (d : X) → j < i → P j (get_or xs j d)) → P i x
    → ys ≡ xs ++ x ∷ [] → (j : ℕ) (d : X) → j < i + 1 → P j (get_or ys j d)
each_more P xs ys x i len each more is j d lt = elim (eqb_tells j i) [
  | inl e ↦
      subst (P j) (sym (ap (λ us. get_or us j d) is ∙ get_or_push xs x d j (len ∙ sym e.1))) (subst (λ (m : ℕ). P m x) (sym e.1) more)
  | inr e ↦
      (let ne = e.1 in
      let low : j < i = omega (arith, lt, ne) in
      subst (P j) (sym (ap (λ us. get_or us j d) is ∙ get_or_append_left xs (x ∷ []) d j (omega (arith, low, len)))) (each j d low))
]

-- with one phase another firing has them there too
pub placed_stays : (cs : List Channel) (a j k : ℕ) (places : List OwnPlace) → HasPhases cs a 1 → ArePlaced cs a j places → ArePlaced cs a k places
placed_stays cs a j k places has h = record {
  each_input = h.each_input;
  placed = λ place p lt.
      (let before = h.placed place p lt in
      record {
        own = before.own;
        slot = same_slot cs a has place j k _ _ _ lt before.slot;
        share = λ from. share_stays cs a (get_or (inputs_at cs a) place 0) j k _ _ _ has (enough_at (λ c. c < length cs) (inputs_at cs a) place lt (ins_there cs a)) from
            (before.share from);
      });
}

-- what stands before an input, and that input
pub taken_more : (f : ℕ → ℕ) (ns : List ℕ) (i : ℕ) → i < length ns → sum_by f (take (i + 1) ns) ≡ sum_by f (take i ns) + f (get_or ns i 0)
taken_more f [] i lt = absurd (omega arith)
taken_more f (c ∷ ns) zero lt = let one = sum_by-cons f c [] in omega (arith, one)
taken_more f (c ∷ ns) (suc i) lt =
    let next : sum_by f (take (suc i + 1) (c ∷ ns)) ≡ sum_by f (c ∷ take (i + 1) ns) =
    ap (λ (j : ℕ). sum_by f (take j (c ∷ ns))) (let e : suc i + 1 ≡ suc (i + 1) = omega arith in e) in
    let more = taken_more f ns i (omega (arith, lt)) in
    let whole = sum_by-cons f c (take (i + 1) ns) in
    let front : sum_by f (take (suc i) (c ∷ ns)) ≡ f c + sum_by f (take i ns) = sum_by-cons f c (take i ns) in
    let here : f (get_or (c ∷ ns) (suc i) 0) ≡ f (get_or ns i 0) = refl in
    omega (arith, next, more, whole, front, here)
