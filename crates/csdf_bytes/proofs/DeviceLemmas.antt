-- What several calls of a device make together.
use Rattle.std.proofs.Common.{◌≡◌, ℕ, ◌+◌, ◌≤◌, Bool, true, false, List, ◌++◌, length, take, drop, refl, sym, ◌∙◌, ap, subst, arith, length-append, length-take}
use Rattle.std.specs.Prelude.{Option, None, Some, Result, Ok, Err, OnErr}
use Rattle.std.specs.Io.KnownBytes.{Appends, Consumes, Keeps}
use Rattle.std.proofs.Math.Seq.{take-add, take-append-add}
use Rattle.std.proofs.lemmas.Grind.{flat_map-append}
use Rattle.std.proofs.lemmas.List.{take-append-drop, take-append-le}
use Rattle.std.specs.List.{flat_map}
use Rattle.std.proofs.KnownBytes.{Appends-trans, Consumes-kept, Consumes-trans}
use Rattle.csdf_bytes.specs.Device.{Emits, EmitsSome, Fetches, TakesAtMost}

-- a call after others, which took the bytes bs
pub TakesAtMost-more : (a b c : Option (List ℕ)) (bs buffer : List ℕ) (n most : ℕ) → Consumes a b bs → Fetches b c buffer n
    → length bs + length buffer ≤ most → TakesAtMost most a c
TakesAtMost-more a b c bs buffer n most first next room = record {
  bytes = bs ++ take n buffer;
  taken = Consumes-trans a b c bs (take n buffer) first next.taken;
  few = let fits = next.fits in omega (arith, length-append bs (take n buffer), length-take n buffer);
}

-- a call on the bytes that are left, after others that took the first of them
pub Emits-more : (a b c : Option (List ℕ)) (bytes rest : List ℕ) (done n : ℕ) → rest ≡ drop done bytes → Appends a b (take done bytes)
    → Emits b c rest n → Appends a c (take (done + n) bytes)
Emits-more a b c bytes rest done n is first next =
    let joined : take done bytes ++ take n rest ≡ take (done + n) bytes = ap (λ r. take done bytes ++ take n r) is ∙ sym (take-add done n bytes) in
    subst (Appends a c) joined (Appends-trans a b c (take done bytes) (take n rest) first next.put)

-- a call that failed after others, which took the bytes bs
pub TakesAtMost-kept : (a b c : Option (List ℕ)) (bs : List ℕ) (most : ℕ) → Consumes a b bs → Keeps b c → length bs ≤ most → TakesAtMost most a c
TakesAtMost-kept a b c bs most first kept room = record { bytes = bs; taken = Consumes-kept a b c bs first kept; few = room }

-- known bytes that grew and then stayed
pub Appends-kept : (a b c : Option (List ℕ)) (bs : List ℕ) → Appends a b bs → Keeps b c → Appends a c bs
Appends-kept None b c bs first kept = tt
Appends-kept (Some x) None c bs first kept = absurd first
Appends-kept (Some x) (Some y) None bs first kept = absurd kept
Appends-kept (Some x) (Some y) (Some z) bs first kept = kept ∙ first

-- a beginning of a line that went out after all that stands before it
EmitsSome-after : (a b c : Option (List ℕ)) (front line rest : List ℕ) → Appends a b front → EmitsSome b c line → EmitsSome a c (front ++ (line ++ rest))
EmitsSome-after a b c front line rest first next = record {
  count = length front + next.count;
  fits = let fits = next.fits in omega (arith, length-append front (line ++ rest), length-append line rest, fits);
  put = let same : take (length front + next.count) (front ++ (line ++ rest)) ≡ front ++ take next.count line =
      take-append-add front (line ++ rest) next.count ∙ ap (λ l. front ++ l) (take-append-le next.count line rest next.fits) in
      subst (Appends a c) (sym same) (Appends-trans a b c front (take next.count line) first next.put);
}

-- a list about a part of it
flat_map-part : {X : Type 0} (f : X → List ℕ) (xs : List X) (i n : ℕ)
    → flat_map f xs ≡ flat_map f (take i xs) ++ (flat_map f (take n (drop i xs)) ++ flat_map f (drop n (drop i xs)))
flat_map-part f xs i n =
    ap (flat_map f) (sym (take-append-drop i xs)) ∙ flat_map-append f (take i xs) (drop i xs)
    ∙ ap (λ rest. flat_map f (take i xs) ++ flat_map f rest) (sym (take-append-drop n (drop i xs)))
    ∙ ap (λ rest. flat_map f (take i xs) ++ rest) (flat_map-append f (take n (drop i xs)) (drop n (drop i xs)))

-- the lines before a place went out, and a beginning of those of the next items
pub EmitsSome-part : {X : Type 0} (f : X → List ℕ) (xs : List X) (i n : ℕ) (a b c : Option (List ℕ)) → Appends a b (flat_map f (take i xs))
    → EmitsSome b c (flat_map f (take n (drop i xs))) → EmitsSome a c (flat_map f xs)
EmitsSome-part f xs i n a b c first next =
    subst (EmitsSome a c) (sym (flat_map-part f xs i n)) (EmitsSome-after a b c _ _ (flat_map f (drop n (drop i xs))) first next)

-- and where all of those went out
pub Appends-part : {X : Type 0} (f : X → List ℕ) (xs : List X) (i n : ℕ) (a b c : Option (List ℕ)) → Appends a b (flat_map f (take i xs))
    → Appends b c (flat_map f (take n (drop i xs))) → Appends a c (flat_map f (take (i + n) xs))
Appends-part f xs i n a b c first next =
    subst (Appends a c) (sym (ap (flat_map f) (take-add i n xs) ∙ flat_map-append f (take i xs) (take n (drop i xs)))) (Appends-trans a b c _ _ first next)

-- what holds in any case
pub on_err : {T E : Type 0} (r : Result T E) (P : Type 0) → P → OnErr r P
on_err (Ok t) P holds = tt
on_err (Err e) P holds = holds

-- a mark that was not set at the end of a call is as it was before
pub unmarked : (old new : Bool) → (old ≡ true → new ≡ true) → (new ≡ true → ⊥) → new ≡ old
unmarked false false stays clear = refl
unmarked false true stays clear = absurd (clear refl)
unmarked true false stays clear = absurd (clear (stays refl))
unmarked true true stays clear = refl
