-- Groups have one number exactly where actors are joined.
use Rattle.std.proofs.Common.{◌≡◌, ℕ, zero, suc, ◌+◌, ◌<◌, ◌==◌, Bool, true, false, cond, ◌⊎◌, inl, inr, List, [], ◌∷◌, length, get_or, slice_get, Option, Some}
use Rattle.std.proofs.Common.{None, option_map, refl, sym, ap, subst, ◌∙◌, arith}
use Rattle.std.specs.Prelude.{slice_index}
use Rattle.std.specs.List.{list_all, position_or_len, range_with_len}
use Rattle.std.specs.Prelude.{is_none}
use Rattle.std.proofs.Common.{not, ◌&&◌, ltb}
use Rattle.std.proofs.lemmas.Bool.{cases_Bool, and_parts, and_from, eqb-true, eq-eqb}
use Rattle.std.proofs.lemmas.Option.{slice_get-map, slice_get-get_or, same_Some}
use Rattle.std.proofs.lemmas.List.FromFn.{length-range_with_len}
use Rattle.csdf_model.specs.Graph.{Channel}
use Rattle.csdf_graph.specs.Connected.{relabel, merge, join_all, groups_of, are_one_group}
use Rattle.csdf_model.specs.Joined.{IsEdge, Joined, here, along, HasEnds, AreJoined}
use Rattle.csdf_model.proofs.LinkLemmas.{length_of_map}

-- ---- walks

Joined-then : (cs : List Channel) (a b c : ℕ) → Joined cs a b → Joined cs b c → Joined cs a c
Joined-then cs a b c p here = p
Joined-then cs a b c p (along {b = d} e q) = along e (Joined-then cs a b d p q)

IsEdge-back : (cs : List Channel) (a b : ℕ) → IsEdge cs a b → IsEdge cs b a
IsEdge-back [] a b h = h
IsEdge-back (c ∷ cs) a b (inl h) = inr (inl h)
IsEdge-back (c ∷ cs) a b (inr (inl h)) = inl h
IsEdge-back (c ∷ cs) a b (inr (inr h)) = inr (inr (IsEdge-back cs a b h))

Joined-back : (cs : List Channel) (a b : ℕ) → Joined cs a b → Joined cs b a
Joined-back cs a b here = here
Joined-back cs a b (along {b = d} e q) = Joined-then cs b d a (along (IsEdge-back cs d b e) here) (Joined-back cs a d q)

-- ---- actors of one group are joined

abbrev Sound : List Channel → List ℕ → Type 0
Sound all groups = (a b x : ℕ) → slice_get groups a ≡ Some x → slice_get groups b ≡ Some x → Joined all a b

from_map : (f : ℕ → ℕ) (o : Option ℕ) (x : ℕ) → option_map f o ≡ Some x → (u : ℕ) × (o ≡ Some u) × (f u ≡ x)
from_map f None x e = absurd cc
from_map f (Some u) x e = (u, refl, same_Some (f u) x e)

chosen : (b : Bool) (u p q x : ℕ) → (b ≡ true → u ≡ p) → cond b q u ≡ x → ((u ≡ p) × (x ≡ q)) ⊎ (u ≡ x)
chosen true u p q x same e = inl (same refl, sym e)
chosen false u p q x same e = inr e

was : (p q : ℕ) (groups : List ℕ) (a x : ℕ) → slice_get (relabel p q groups) a ≡ Some x → (u : ℕ) × (slice_get groups a ≡ Some u)
    × (((u ≡ p) × (x ≡ q)) ⊎ (u ≡ x))
was p q groups a x e =
    let m = from_map (λ g. cond (g == p) q g) (slice_get groups a) x (sym (slice_get-map (λ g. cond (g == p) q g) groups a) ∙ e) in
    (m.0, m.1, chosen (m.0 == p) m.0 p q x (eqb-true m.0 p) m.2)

relabel_sound : (all : List Channel) (groups : List ℕ) (f t p q : ℕ) → slice_get groups f ≡ Some p → slice_get groups t ≡ Some q → Joined all f t
    → Sound all groups → Sound all (relabel p q groups)
relabel_sound all groups f t p q at_f at_t edge sound a b x at_a at_b =
    let u = was p q groups a x at_a in
    let v = was p q groups b x at_b in
    elim u.2 [
      | inl m ↦ elim v.2 [
        | inl n ↦ sound a b p (u.1 ∙ ap (λ w. Some w) m.0) (v.1 ∙ ap (λ w. Some w) n.0)
        | inr n ↦ Joined-then all a t b (Joined-then all a f t (sound a f p (u.1 ∙ ap (λ w. Some w) m.0) at_f) edge) (sound t b q at_t (v.1
            ∙ ap (λ w. Some w) (n ∙ m.1)))
      ]
      | inr m ↦ elim v.2 [
        | inl n ↦ Joined-then all a t b (sound a t q (u.1 ∙ ap (λ w. Some w) (m ∙ n.1)) at_t)
            (Joined-then all t f b (Joined-back all f t edge) (sound f b p at_f (v.1 ∙ ap (λ w. Some w) n.0)))
        | inr n ↦ sound a b x (u.1 ∙ ap (λ w. Some w) m) (v.1 ∙ ap (λ w. Some w) n)
      ]
    ]

merge_sound : (all : List Channel) (groups : List ℕ) (f t : ℕ) (o r : Option ℕ) → slice_get groups f ≡ o → slice_get groups t ≡ r → Joined all f t
    → Sound all groups → Sound all (merge o r groups)
merge_sound all groups f t (Some p) (Some q) at_f at_t edge sound = relabel_sound all groups f t p q at_f at_t edge sound
merge_sound all groups f t (Some p) None at_f at_t edge sound = sound
merge_sound all groups f t None r at_f at_t edge sound = sound

join_sound : (all cs : List Channel) (groups : List ℕ) → ((a b : ℕ) → IsEdge cs a b → IsEdge all a b) → Sound all groups → Sound all (join_all groups cs)
join_sound all [] groups sub sound = sound
join_sound all (c ∷ cs) groups sub sound =
    join_sound all cs (merge (slice_get groups c.from) (slice_get groups c.to) groups) (λ a b h. sub a b (inr (inr h)))
    (merge_sound all groups c.from c.to (slice_get groups c.from) (slice_get groups c.to) refl refl (along (sub c.from c.to (inl (refl, refl))) here) sound)

range_at : (k n a x : ℕ) → slice_get (range_with_len k n) a ≡ Some x → x ≡ k + a
range_at k zero a x e = absurd cc
range_at k (suc n) zero x e = let same : k ≡ x = same_Some k x e in omega arith
range_at k (suc n) (suc a) x e = let rest = range_at (k + 1) n a x e in omega arith

range_sound : (all : List Channel) (n : ℕ) → Sound all (range_with_len 0 n)
range_sound all n a b x at_a at_b =
    let p = range_at 0 n a x at_a in
    let q = range_at 0 n b x at_b in
    let same : a ≡ b = omega arith in
    subst (λ c. Joined all a c) same here

-- ---- joined actors are of one group

merge_keeps : (groups : List ℕ) (o r : Option ℕ) (a b : ℕ) → slice_get groups a ≡ slice_get groups b
    → slice_get (merge o r groups) a ≡ slice_get (merge o r groups) b
merge_keeps groups (Some p) (Some q) a b e =
    slice_get-map (λ g. cond (g == p) q g) groups a ∙ ap (option_map (λ g. cond (g == p) q g)) e ∙ sym (slice_get-map (λ g. cond (g == p) q g) groups b)
merge_keeps groups (Some p) None a b e = e
merge_keeps groups None r a b e = e

join_keeps : (cs : List Channel) (groups : List ℕ) (a b : ℕ) → slice_get groups a ≡ slice_get groups b
    → slice_get (join_all groups cs) a ≡ slice_get (join_all groups cs) b
join_keeps [] groups a b e = e
join_keeps (c ∷ cs) groups a b e = join_keeps cs (merge (slice_get groups c.from) (slice_get groups c.to) groups) a b
    (merge_keeps groups (slice_get groups c.from) (slice_get groups c.to) a b e)

merge_length : (groups : List ℕ) (o r : Option ℕ) → length (merge o r groups) ≡ length groups
merge_length groups (Some p) (Some q) = length_of_map (λ g. cond (g == p) q g) groups
merge_length groups (Some p) None = refl
merge_length groups None r = refl

join_length : (cs : List Channel) (groups : List ℕ) → length (join_all groups cs) ≡ length groups
join_length [] groups = refl
join_length (c ∷ cs) groups = join_length cs (merge (slice_get groups c.from) (slice_get groups c.to) groups)
    ∙ merge_length groups (slice_get groups c.from) (slice_get groups c.to)

merged_same : (groups : List ℕ) (f t : ℕ) → f < length groups → t < length groups
    → slice_get (merge (slice_get groups f) (slice_get groups t) groups) f ≡ slice_get (merge (slice_get groups f) (slice_get groups t) groups) t
merged_same groups f t lf lt =
    let p = get_or groups f 0 in
    let q = get_or groups t 0 in
    let at_f : slice_get groups f ≡ Some p = slice_get-get_or groups f 0 lf in
    let at_t : slice_get groups t ≡ Some q = slice_get-get_or groups t 0 lt in
    let g = λ (x : ℕ). cond (x == p) q x in
    let first : g p ≡ q = rw (eq-eqb p p refl) refl in
    let second : g q ≡ q = elim (cases_Bool (q == p)) [ inl y ↦ rw y refl | inr n ↦ rw n refl ] in
    let same : slice_get (relabel p q groups) f ≡ slice_get (relabel p q groups) t =
    slice_get-map g groups f ∙ ap (option_map g) at_f ∙ ap (λ w. Some w) (first ∙ sym second) ∙ ap (option_map g) (sym at_t) ∙ sym (slice_get-map g groups t) in
    subst (λ o. slice_get (merge o (slice_get groups t) groups) f ≡ slice_get (merge o (slice_get groups t) groups) t) (sym at_f)
    (subst (λ o. slice_get (merge (Some p) o groups) f ≡ slice_get (merge (Some p) o groups) t) (sym at_t) same)

edge_same : (cs : List Channel) (groups : List ℕ) (n a b : ℕ) → length groups ≡ n → HasEnds n cs → IsEdge cs a b
    → slice_get (join_all groups cs) a ≡ slice_get (join_all groups cs) b
edge_same [] groups n a b len ends h = absurd h
edge_same (c ∷ cs) groups n a b len ends (inl h) =
    let same = join_keeps cs (merge (slice_get groups c.from) (slice_get groups c.to) groups) c.from c.to
    (merged_same groups c.from c.to (omega (arith, ends.0)) (omega (arith, ends.1))) in
    rw (← h.0, ← h.1) same
edge_same (c ∷ cs) groups n a b len ends (inr (inl h)) =
    let same = join_keeps cs (merge (slice_get groups c.from) (slice_get groups c.to) groups) c.from c.to
    (merged_same groups c.from c.to (omega (arith, ends.0)) (omega (arith, ends.1))) in
    rw (← h.0, ← h.1) (sym same)
edge_same (c ∷ cs) groups n a b len ends (inr (inr h)) =
    edge_same cs (merge (slice_get groups c.from) (slice_get groups c.to) groups) n a b (merge_length groups (slice_get groups c.from) (slice_get groups c.to)
    ∙ len) ends.2 h

joined_same : (cs : List Channel) (n a b : ℕ) → HasEnds n cs → Joined cs a b → slice_get (groups_of n cs) a ≡ slice_get (groups_of n cs) b
joined_same cs n a b ends here = refl
joined_same cs n a b ends (along {b = d} e q) = joined_same cs n a d ends q ∙ edge_same cs (range_with_len 0 n) n d b (length-range_with_len 0 n) ends e

-- ---- the test

all_at : (xs : List ℕ) (g a : ℕ) → list_all (λ x. x == g) xs ≡ true → a < length xs → slice_get xs a ≡ Some g
all_at [] g a all lt = absurd (omega arith)
all_at (x ∷ xs) g zero all lt = ap (λ w. Some w) (eqb-true x g (and_parts (x == g) (list_all (λ y. y == g) xs) all).0)
all_at (x ∷ xs) g (suc a) all lt = all_at xs g a (and_parts (x == g) (list_all (λ y. y == g) xs) all).1 (omega arith)

all_from : (xs : List ℕ) (g : ℕ) → ((a : ℕ) → a < length xs → slice_get xs a ≡ Some g) → list_all (λ x. x == g) xs ≡ true
all_from [] g each = refl
all_from (x ∷ xs) g each =
    and_from (x == g) (list_all (λ y. y == g) xs) (eq-eqb x g (same_Some x g (each 0 (omega arith)))) (all_from xs g (λ a lt. each (suc a) (omega arith)))

groups_length : (n : ℕ) (cs : List Channel) → length (groups_of n cs) ≡ n
groups_length n cs = join_length cs (range_with_len 0 n) ∙ length-range_with_len 0 n

pub connected_joined : (n : ℕ) (cs : List Channel) → are_one_group n cs ≡ true → AreJoined n cs
connected_joined n cs e a b la lb =
    let len = groups_length n cs in
    let g = slice_index (groups_of n cs) 0 in
    join_sound cs cs (range_with_len 0 n) (λ x y h. h) (range_sound cs n) a b g (all_at (groups_of n cs) g a e (omega arith))
    (all_at (groups_of n cs) g b e (omega arith))

pub joined_connected : (n : ℕ) (cs : List Channel) → HasEnds n cs → AreJoined n cs → are_one_group n cs ≡ true
joined_connected n cs ends joined =
    let len = groups_length n cs in
    all_from (groups_of n cs) (slice_index (groups_of n cs) 0)
    (λ a lt. joined_same cs n a 0 ends (joined a 0 (omega arith) (omega arith)) ∙ slice_get-get_or (groups_of n cs) 0 0 (omega arith))

-- a place is found exactly where some element is not in the group
pub none_outside : (group : ℕ) (groups : List ℕ)
    → is_none (cond (ltb (position_or_len (λ g. not (g == group)) groups) (length groups)) (Some (position_or_len (λ g. not (g == group)) groups)) None)
    ≡ list_all (λ g. g == group) groups
none_outside group groups = none_by (ltb (position_or_len (λ g. not (g == group)) groups) (length groups)) (position_or_len (λ g. not (g == group)) groups)
    ∙ none_at groups
  where
    none_by : (b : Bool) (i : ℕ) → is_none (cond b (Some i) None) ≡ not b
    none_by true i = refl
    none_by false i = refl

    step : (b : Bool) (p l : ℕ) (r : Bool) → not (ltb p l) ≡ r → not (ltb (cond (not (not b)) (1 + p) 0) (suc l)) ≡ (b && r)
    step true p l r e = grind arith
    step false p l r e = grind arith

    none_at : (gs : List ℕ) → not (ltb (position_or_len (λ g. not (g == group)) gs) (length gs)) ≡ list_all (λ g. g == group) gs
    none_at [] = refl
    none_at (g ∷ gs) = step (g == group) (position_or_len (λ x. not (x == group)) gs) (length gs) (list_all (λ x. x == group) gs) (none_at gs)
