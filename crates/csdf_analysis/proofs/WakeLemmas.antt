-- A firing makes none able but its actor and those at the other ends of its channels.
use Rattle.std.proofs.Common.{◌≡◌, ℕ, ◌+◌, ◌-◌, ◌*◌, ◌%◌, ◌^◌, ◌<◌, ◌≤◌, ◌==◌, ◌⊎◌, inl, inr, cond, List, [], ◌∷◌, ◌++◌, length, get_or, sym, ap}
use Rattle.std.proofs.Common.{subst, ◌∙◌, arith}
use Rattle.std.specs.Prelude.{slice_get, Some}
use Rattle.std.specs.Int.{bit_at, bit_not, trailing_zeros, w64}
use Rattle.std.specs.Int.Bits.{bit_and, bit_or}
use Rattle.std.proofs.Math.Seq.{get_or-append_seam}
use Rattle.std.proofs.lemmas.List.{get_or_append_left, length_push}
use Rattle.std.proofs.lemmas.Nat.{and_le_l}
use Rattle.std.proofs.lemmas.Nat.Bits.{bit_at-zero, bit_at-lt, bit_at_and, bit_at_or, bit_at_above, bit_at_not, bit_at_set_same, bit_at_set_other, bit_at_clear_same}
use Rattle.std.proofs.lemmas.Nat.Bits.{bit_at_clear_other, bit_at-trailing_zeros}
use Rattle.std.proofs.lemmas.Bool.{eq-eqb}
use Rattle.csdf_model.specs.Graph.{Channel, inputs_of, outputs_of}
use Rattle.csdf_model.specs.Rates.{produced, consumed, production, consumption}
use Rattle.csdf_analysis.specs.Period.{held, held_after, fired, CanGo}
use Rattle.csdf_analysis.specs.Waking.{IsIn, IsLowest, ProducersIn, ConsumersIn, AreWoken, AreActors, AreNeighbours, HasAble}
use Rattle.csdf_analysis.proofs.CountLemmas.{same_or_not, less_or_not, fired_other, fired_length}
use Rattle.csdf_analysis.proofs.FitLemmas.{stands_at}

-- ---- sets of actors

pub in_or_not : (mask b : ℕ) → IsIn mask b ⊎ (IsIn mask b → ⊥)
in_or_not mask b = same_or_not (bit_at mask b) 1

pub none_in : (b : ℕ) → IsIn 0 b → ⊥
none_in b set = let none = bit_at-zero b in absurd (omega (arith, none, set))

pub set_same : (mask a : ℕ) → a < 64 → IsIn (bit_or mask (1 * 2 ^ a % 2 ^ 64)) a
set_same mask a lt = bit_at_set_same w64 mask a lt

pub set_keeps : (mask a b : ℕ) → a < 64 → IsIn mask b → IsIn (bit_or mask (1 * 2 ^ a % 2 ^ 64)) b
set_keeps mask a b lt set = elim (same_or_not b a) [
  | inl this ↦ subst (IsIn (bit_or mask (1 * 2 ^ a % 2 ^ 64))) (sym this) (set_same mask a lt)
  | inr other ↦ bit_at_set_other w64 mask a lt b other ∙ set
]

pub set_others : (mask a b : ℕ) → a < 64 → IsIn (bit_or mask (1 * 2 ^ a % 2 ^ 64)) b → (b ≡ a) ⊎ IsIn mask b
set_others mask a b lt set = elim (same_or_not b a) [
  | inl this ↦ inl this
  | inr other ↦ inr (sym (bit_at_set_other w64 mask a lt b other) ∙ set)
]

-- a bit that is set is one of the 64
pub in_below : (mask a : ℕ) → mask < 2 ^ 64 → IsIn mask a → a < 64
in_below mask a small set = elim (less_or_not a 64) [
  | inl low ↦ low
  | inr high ↦ absurd (let none = bit_at_above mask 64 a small high in omega (arith, none, set))
]

pub clear_others : (mask a b : ℕ) → a < 64 → mask < 2 ^ 64 → IsIn mask b → (b ≡ a) ⊎ IsIn (bit_and mask (bit_not w64 (1 * 2 ^ a % 2 ^ 64))) b
clear_others mask a b lt small set = elim (same_or_not b a) [
  | inl this ↦ inl this
  | inr other ↦ elim (less_or_not b 64) [
    | inl low ↦ inr (bit_at_clear_other w64 mask a lt b low other ∙ set)
    | inr high ↦ absurd (let none = bit_at_above mask 64 b small high in omega (arith, none, set))
  ]
]

pub and_kept : (x y b : ℕ) → IsIn (bit_and x y) b → IsIn x b
and_kept x y b set = let both = bit_at_and x y b in let one = bit_at-lt x b in omega (arith, both, one, set)

pub apart_either : (x y b : ℕ) → x < 2 ^ 64 → y < 2 ^ 64 → IsIn x b → IsIn y b ⊎ IsIn (bit_and x (bit_not w64 y)) b
apart_either x y b small low set = elim (in_or_not y b) [
  | inl has ↦ inl has
  | inr off ↦
      let both = bit_at_and x (bit_not w64 y) b in
      let other = bit_at_not w64 y b low (in_below x b small set) in
      let one = bit_at-lt y b in
      inr (omega (arith, both, other, one, set, off))
]

pub apart_off : (x y b : ℕ) → x < 2 ^ 64 → y < 2 ^ 64 → IsIn (bit_and x (bit_not w64 y)) b → IsIn y b → ⊥
apart_off x y b small low set here =
    let both = bit_at_and x (bit_not w64 y) b in
    let other = bit_at_not w64 y b low (in_below x b small (and_kept x (bit_not w64 y) b set)) in
    absurd (omega (arith, both, other, set, here))

pub clear_kept : (mask a b : ℕ) → IsIn (bit_and mask (bit_not w64 (1 * 2 ^ a % 2 ^ 64))) b → IsIn mask b
clear_kept mask a b set =
    let both = bit_at_and mask (bit_not w64 (1 * 2 ^ a % 2 ^ 64)) b in
    let one = bit_at-lt mask b in
    omega (arith, both, one, set)

pub clear_less : (mask a : ℕ) → a < 64 → IsIn mask a → bit_and mask (bit_not w64 (1 * 2 ^ a % 2 ^ 64)) < mask
clear_less mask a lt set = elim (same_or_not (bit_and mask (bit_not w64 (1 * 2 ^ a % 2 ^ 64))) mask) [
  | inl same ↦
      let gone = bit_at_clear_same w64 mask a lt in
      let here = ap (λ n. bit_at n a) same in
      absurd (omega (arith, gone, here, set))
  | inr other ↦ let le = and_le_l mask (bit_not w64 (1 * 2 ^ a % 2 ^ 64)) in omega (arith, le, other)
]

pub or_first : (x y b : ℕ) → IsIn x b → IsIn (bit_or x y) b
or_first x y b set = let both = bit_at_or x y b in let one = bit_at-lt y b in omega (arith, both, one, set)

pub or_second : (x y b : ℕ) → IsIn y b → IsIn (bit_or x y) b
or_second x y b set = let both = bit_at_or x y b in let one = bit_at-lt x b in omega (arith, both, one, set)

pub or_either : (x y b : ℕ) → IsIn (bit_or x y) b → IsIn x b ⊎ IsIn y b
or_either x y b set = elim (in_or_not x b) [
  | inl has ↦ inl has
  | inr off ↦
      let both = bit_at_or x y b in
      let one = bit_at-lt x b in
      let two = bit_at-lt y b in
      inr (omega (arith, both, one, two, set, off))
]

pub lowest_is : (mask : ℕ) → (mask ≡ 0 → ⊥) → mask < 2 ^ 64 → IsLowest mask (trailing_zeros w64 mask)
lowest_is mask some small =
    let zeros = bit_at-trailing_zeros w64 mask (omega (arith, some)) small in
    record {
      set = zeros.1;
      lowest = λ b lt set. (let none = zeros.2 b lt in absurd (omega (arith, none, set)));
    }

-- ---- the ends of an actor's channels

pub producers_all : (channels : List Channel) (numbers : List ℕ) (mask a m : ℕ) → numbers ≡ inputs_of channels a → length numbers ≤ m
    → ((k : ℕ) → k < m → (c : Channel) → slice_get channels (get_or numbers k 0) ≡ Some c → IsIn mask c.from) → ProducersIn channels a mask
producers_all channels numbers mask a m is le each i c at to =
    let stands = stands_at (λ d. d.to == a) channels i c at (eq-eqb c.to a to) in
    let number : get_or numbers (stands.0) 0 ≡ i = ap (λ ks. get_or ks (stands.0) 0) is ∙ stands.2 in
    each (stands.0) (let h = stands.1 in let e = ap length is in omega arith) c (ap (slice_get channels) number ∙ at)

pub consumers_all : (channels : List Channel) (numbers : List ℕ) (mask a m : ℕ) → numbers ≡ outputs_of channels a → length numbers ≤ m
    → ((k : ℕ) → k < m → (c : Channel) → slice_get channels (get_or numbers k 0) ≡ Some c → IsIn mask c.to) → ConsumersIn channels a mask
consumers_all channels numbers mask a m is le each i c at from =
    let stands = stands_at (λ d. d.from == a) channels i c at (eq-eqb c.from a from) in
    let number : get_or numbers (stands.0) 0 ≡ i = ap (λ ks. get_or ks (stands.0) 0) is ∙ stands.2 in
    each (stands.0) (let h = stands.1 in let e = ap length is in omega arith) c (ap (slice_get channels) number ∙ at)

-- ---- one firing

-- what a firing changes of a channel with neither end at the actor: nothing
held_apart : (n : List ℕ) (a : ℕ) (c : Channel) → (c.from ≡ a → ⊥) → (c.to ≡ a → ⊥) → held c (fired n a) ≡ held c n
held_apart n a c from to =
    let put : produced c (get_or (fired n a) c.from 0) ≡ produced c (get_or n c.from 0) = ap (produced c) (fired_other n a c.from from) in
    let taken : consumed c (get_or (fired n a) c.to 0) ≡ consumed c (get_or n c.to 0) = ap (consumed c) (fired_other n a c.to to) in
    omega arith

-- an actor that is apart from the one that fired was able before
apart_before : (channels : List Channel) (q bounds n : List ℕ) (mask a b : ℕ) → AreWoken channels a mask → (IsIn mask b → ⊥)
    → CanGo channels q bounds (fired n a) b → CanGo channels q bounds n b
apart_before channels q bounds n mask a b woken off go =
    let other : b ≡ a → ⊥ = λ e. off (subst (IsIn mask) (sym e) woken.own) in
    let count : get_or (fired n a) b 0 ≡ get_or n b 0 = fired_other n a b other in
    record {
      able = record {
        exists = (let h = go.able.exists in let e = fired_length n a in omega arith);
        tokens = λ i c at to.
            (let from : c.from ≡ a → ⊥ = λ e. off (subst (IsIn mask) to (woken.consumers i c at e)) in
            let apart = held_apart n a c from (λ e. other (sym to ∙ e)) in
            let had = go.able.tokens i c at to in
            let takes : consumption c (get_or (fired n a) b 0) ≡ consumption c (get_or n b 0) = ap (consumption c) count in
            subst (λ k. k ≤ held c n) takes (subst (λ k. consumption c (get_or (fired n a) b 0) ≤ k) apart had));
        room = λ i c at from.
            (let to : c.to ≡ a → ⊥ = λ e. off (subst (IsIn mask) from (woken.producers i c at e)) in
            let apart = held_apart n a c (λ e. other (sym from ∙ e)) to in
            let same : held_after b (fired n a) c ≡ held_after b n c =
            ap (λ h. h - cond (c.to == b) (consumption c (get_or (fired n a) b 0)) 0 + production c (get_or (fired n a) b 0)) apart
            ∙ ap (λ k. held c n - cond (c.to == b) (consumption c k) 0 + production c k) count in
            subst (λ k. k ≤ get_or bounds i 0) same (go.able.room i c at from));
      };
      left = (let h = go.left in omega arith);
    }

-- a set with all that were able but the actor itself, and with those that it wakes, has all that are able after it fired
pub woken_able : (channels : List Channel) (q bounds n : List ℕ) (mask a : ℕ) → AreWoken channels a mask
    → ((b : ℕ) → CanGo channels q bounds n b → (b ≡ a) ⊎ IsIn mask b) → HasAble channels q bounds (fired n a) mask
woken_able channels q bounds n mask a woken before b go = elim (in_or_not mask b) [
  | inl has ↦ has
  | inr off ↦ elim (before b (apart_before channels q bounds n mask a b woken off go)) [
    | inl this ↦ subst (IsIn mask) (sym this) woken.own
    | inr has ↦ has
  ]
]

-- ---- masks made one by one

pub neighbours_more : (channels : List Channel) (n k m : ℕ) (masks next : List ℕ) → next ≡ masks ++ m ∷ [] → AreWoken channels k m → AreActors n m
    → AreNeighbours channels n k masks → AreNeighbours channels n (k + 1) next
neighbours_more channels n k m masks next pushed woken actors are =
    let here : get_or (masks ++ m ∷ []) k 0 ≡ m = ap (λ j. get_or (masks ++ m ∷ []) j 0) (sym are.count) ∙ get_or-append_seam masks m [] 0 in
    subst (AreNeighbours channels n (k + 1)) (sym pushed) (record {
      count = length_push masks m ∙ ap (λ j. j + 1) are.count;
      woken = λ a lt. elim (same_or_not a k) [
        | inl last ↦ subst (λ j. AreWoken channels j (get_or (masks ++ m ∷ []) j 0)) (sym last) (subst (AreWoken channels k) (sym here) woken)
        | inr other ↦
            let before : a < k = omega (arith, other) in
            subst (AreWoken channels a) (sym (get_or_append_left masks (m ∷ []) 0 a (let count = are.count in omega arith))) (are.woken a before)
      ];
      actors = λ a lt. elim (same_or_not a k) [
        | inl last ↦ subst (λ j. AreActors n (get_or (masks ++ m ∷ []) j 0)) (sym last) (subst (AreActors n) (sym here) actors)
        | inr other ↦
            let before : a < k = omega (arith, other) in
            subst (AreActors n) (sym (get_or_append_left masks (m ∷ []) 0 a (let count = are.count in omega arith))) (are.actors a before)
      ];
    })
