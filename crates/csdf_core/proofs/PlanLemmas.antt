-- The graph's lists beside the plan's.
use Rattle.std.proofs.Common.{◌≡◌, ◌≢◌, ℕ, zero, suc, ◌+◌, ◌<◌, ◌≤◌, List, [], ◌∷◌, ◌++◌, length, get_or, map, take, Some, inl, inr, refl, ap, subst, ◌∙◌, sym, arith, Bool, cond}
use Rattle.std.specs.List.{zip}
use Rattle.std.proofs.lemmas.List.{get_or-map, get_or_append_left, length-map, length_push, map-append, take_more}
use Rattle.std.proofs.lemmas.Bool.Decides.{eqb_tells}
use Rattle.std.proofs.Math.Seq.{get_or-append_seam}
use Rattle.std.proofs.Common.{◌%◌}
use Rattle.std.specs.Prelude.{All, slice_get}
use Rattle.std.specs.List.{AllByRecursion}
use Rattle.std.proofs.lemmas.List.Elements.{recursion_from_All}
use Rattle.csdf_model.specs.Rates.{rate}
use Rattle.csdf_model.specs.Graph as graph
use Rattle.csdf_model.specs.Graph.{numbers_from}
use Rattle.csdf_core.specs.Blocks.{HasNoLoop}
use Rattle.csdf_core.specs.Plan.{Channel, from_at, to_at}
use Rattle.csdf_core.specs.declared.planned.PlannedActor.{PlannedActor}
use Rattle.csdf_core.specs.declared.planned.PlannedChannel.{PlannedChannel}
use Rattle.csdf_core.specs.PlanInside.{channel_in, AreActors, AreChannels, HasSmallRates, IsActor}
use Rattle.csdf_core.specs.Planned.{with_capacity}
use Rattle.csdf_core.proofs.PhaseLemmas.{of_own}

pub length-capacities : (gs : List graph.Channel) (caps : List ℕ) → length caps ≡ length gs → length (map with_capacity (zip gs caps)) ≡ length gs
length-capacities [] [] e = refl
length-capacities [] (b ∷ caps) e = absurd (omega arith)
length-capacities (g ∷ gs) [] e = absurd (omega arith)
length-capacities (g ∷ gs) (b ∷ caps) e = ap suc (length-capacities gs caps (omega arith))

pub numbers-capacities : (own : Channel → Bool) (mine : graph.Channel → Bool) → ((g : graph.Channel) (b : ℕ) → own (with_capacity (g, b)) ≡ mine g)
    → (i : ℕ) (gs : List graph.Channel) (caps : List ℕ) → length caps ≡ length gs
    → numbers_from i own (map with_capacity (zip gs caps)) ≡ numbers_from i mine gs
numbers-capacities own mine same i [] [] e = refl
numbers-capacities own mine same i [] (b ∷ caps) e = absurd (omega arith)
numbers-capacities own mine same i (g ∷ gs) [] e = absurd (omega arith)
numbers-capacities own mine same i (g ∷ gs) (b ∷ caps) e =
    let rest = numbers-capacities own mine same (suc i) gs caps (omega arith) in
    ap (λ t. cond t (i ∷ numbers_from (suc i) own (map with_capacity (zip gs caps))) (numbers_from (suc i) own (map with_capacity (zip gs caps)))) (same g b)
    ∙ ap (λ ns. cond (mine g) (i ∷ ns) ns) rest

-- an entry of a list that another is seen as
pub seen_at : {X G K : Type 0} (view : X → G) (h : G → K) (items : List X) (gs : List G) → map view items ≡ gs → (i : ℕ) (x : X) (d : K) → i < length items
    → x ≡ get_or items i x → h (view x) ≡ get_or (map h gs) i d
seen_at {X = X} view h items gs same i x d lt is = by items i lt is ∙ ap (λ l. get_or (map h l) i d) same
  where
    by : (xs : List X) (j : ℕ) → j < length xs → x ≡ get_or xs j x → h (view x) ≡ get_or (map h (map view xs)) j d
    by [] j lt e = absurd (omega arith)
    by (y ∷ xs) zero lt e = ap (λ z. h (view z)) e
    by (y ∷ xs) (suc j) lt e = by xs j (omega arith) e

-- a channel with its capacity, in the list of these
pub zipped_at : {X : Type 0} (view : X → graph.Channel) (items : List X) (caps : List ℕ) (i : ℕ) (x : X) (b : ℕ) → length caps ≡ length items → i < length items
    → x ≡ get_or items i x → b ≡ get_or caps i 0 → with_capacity (view x, b) ≡ get_or (map with_capacity (zip (map view items) caps)) i (with_capacity (view x, b))
zipped_at view [] caps i x b len lt is cap = absurd (omega arith)
zipped_at view (y ∷ ys) [] i x b len lt is cap = absurd (omega arith)
zipped_at view (y ∷ ys) (c ∷ caps) zero x b len lt is cap = ap (λ z. with_capacity (view z, b)) is ∙ ap (λ n. with_capacity (view y, n)) cap
zipped_at view (y ∷ ys) (c ∷ caps) (suc i) x b len lt is cap = zipped_at view ys caps i x b (omega arith) (omega arith) is cap

-- one more entry of a list that is seen as another
pub taken_on : {X G : Type 0} (view : X → G) (done : List X) (all : List G) (i : ℕ) (x : X) → map view done ≡ take i all → i < length all
    → view x ≡ get_or all i (view x) → map view (done ++ x ∷ []) ≡ take (i + 1) all
taken_on view done all i x so_far lt is =
    map-append view done (x ∷ []) ∙ ap (λ l. l ++ view x ∷ []) so_far ∙ ap (λ y. take i all ++ y ∷ []) is ∙ sym (take_more all i (view x) lt)

pub got : {X G : Type 0} (view : X → G) (items : List X) (i : ℕ) (x : X) → i < length items → x ≡ get_or items i x → slice_get (map view items) i ≡ Some (view x)
got view [] i x lt is = absurd (omega arith)
got view (y ∷ ys) zero x lt is = ap (λ z. Some (view z)) (sym is)
got view (y ∷ ys) (suc i) x lt is = got view ys i x (omega arith) is

-- a part of a channel, in the list of these parts
pub part_at : {K : Type 0} (f : Channel → K) (cs : List Channel) (i : ℕ) (c : Channel) (d : K) → slice_get cs i ≡ Some c → f c ≡ get_or (map f cs) i d
part_at f [] i c d is = absurd (cc)
part_at f (x ∷ cs) zero c d is = ap f (let e : x ≡ c = cc in sym e)
part_at f (x ∷ cs) (suc i) c d is = part_at f cs i c d is

small_at : (xs : List ℕ) (i : ℕ) → AllByRecursion (λ n. n ≤ 64) xs → get_or xs i 0 ≤ 64
small_at [] i h = omega arith
small_at (x ∷ xs) zero h = h.0
small_at (x ∷ xs) (suc i) h = small_at xs i h.1

pub rate_small : (rates : List ℕ) (k : ℕ) → All (λ n. n ≤ 64) rates → rate rates k ≤ 64
rate_small rates k h = small_at rates (k % length rates) (recursion_from_All (λ n. n ≤ 64) rates h)

-- the rates of one of a plan's channels are small
pub small_at_item : (items : List PlannedChannel) (i : ℕ) (x : PlannedChannel) → AreChannels (map channel_in items) → i < length items → x ≡ get_or items i x
    → HasSmallRates (channel_in x)
small_at_item items i x h lt is =
    let here : channel_in x ≡ get_or (map channel_in items) i (channel_in x) = ap channel_in is ∙ sym (get_or-map channel_in items i x (channel_in x) lt) in
    subst HasSmallRates (sym here) (h.small i (channel_in x) (let e = length-map items channel_in in omega arith))

-- one more actor
pub actors_more : (cs : List Channel) (done : List PlannedActor) (x : PlannedActor) → AreActors cs done → IsActor cs (length done) x → AreActors cs (done ++ x ∷ [])
actors_more cs done x so_far is a d lt = elim (eqb_tells a (length done)) [
  | inl e ↦ subst (λ n. IsActor cs n (get_or (done ++ x ∷ []) n d)) (sym e.1) (subst (IsActor cs (length done)) (sym (get_or-append_seam done x [] d)) is)
  | inr e ↦ (let low : a < length done = let l = length_push done x in let n = e.1 in omega arith in
      subst (IsActor cs a) (sym (get_or_append_left done (x ∷ []) d a low)) (so_far a d low))
]

-- a channel from the actor to itself is one of its inputs
pub loops : (cs : List Channel) (a c : ℕ) → c < length cs → from_at cs c ≡ a → to_at cs c ≡ a → HasNoLoop cs a → ⊥
loops cs a c lt from to none = of_own (λ i. from_at cs i ≢ a) (λ (ch : Channel). ch.to) a cs none c lt to from
