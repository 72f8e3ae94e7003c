-- What the limits of a graph say of a run, and the channels of each actor.
use Rattle.std.proofs.Common.{◌≡◌, ℕ, zero, suc, ◌+◌, ◌<◌, ◌≤◌, ◌==◌, Bool, true, false, cond, List, [], ◌∷◌, length, get_or, refl, sym, ap, subst, ◌∙◌}
use Rattle.std.proofs.Common.{arith}
use Rattle.std.specs.Prelude.{All, slice_get, Some}
use Rattle.std.proofs.lemmas.List.{get_or_default}
use Rattle.std.proofs.lemmas.Bool.{eqb-true}
use Rattle.std.proofs.lemmas.Option.{slice_get_within, get_or_from_slice_get}
use Rattle.csdf_model.specs.Graph.{Channel, numbers_from, inputs_of, outputs_of}
use Rattle.csdf_model.specs.Rates.{produced}
use Rattle.csdf_analysis.specs.Repetition.{full_capacity}
use Rattle.csdf_analysis.specs.Laws.{IsWithinAll}
use Rattle.csdf_analysis.specs.Fitting.{IsBetween, IsFit}
use Rattle.csdf_analysis.proofs.CountLemmas.{total_mono}

-- ---- one channel

pub at : {X : Type 0} (P : X → Type 0) (xs : List X) (i : ℕ) (x : X) → All P xs → slice_get xs i ≡ Some x → P x
at P xs i x all is = subst P (get_or_from_slice_get xs i x x is) (all i x (slice_get_within xs i x is))

pub between_at : (channels : List Channel) (q : List ℕ) (i : ℕ) (c : Channel) → IsFit channels q → slice_get channels i ≡ Some c → IsBetween (length q) c
between_at channels q i c fit is = at (IsBetween (length q)) channels i c fit.between is

pub put_small : (channels : List Channel) (q n : List ℕ) (i : ℕ) (c : Channel) → IsFit channels q → slice_get channels i ≡ Some c → IsWithinAll n q
    → length c.initial + produced c (get_or n c.from 0) ≤ 65535
put_small channels q n i c fit is within =
    let room : full_capacity q c ≤ 65535 = at (λ d. full_capacity q d ≤ 65535) channels i c fit.room is in
    let more : produced c (get_or n c.from 0) ≤ produced c (get_or q c.from 0) = total_mono c.produce (get_or n c.from 0) (get_or q c.from 0) (within c.from) in
    omega arith

-- ---- the numbers of some of the channels

-- the place of the channel, counted from i on
abbrev IsFrom : ℕ → List Channel → (Channel → Bool) → ℕ → Type 0
IsFrom i channels own number = (j : ℕ) × (c : Channel) × (number ≡ i + j) × (slice_get channels j ≡ Some c) × (own c ≡ true)

own_from : (own : Channel → Bool) (i : ℕ) (channels : List Channel) (k : ℕ) → k < length (numbers_from i own channels)
    → IsFrom i channels own (get_or (numbers_from i own channels) k 0)
own_from own i [] k lt = absurd (omega arith)
own_from own i (c ∷ channels) k lt = by (λ m less. own_from own (suc i) channels m less) (own c) refl k lt
  where
    later : (number : ℕ) → IsFrom (suc i) channels own number → IsFrom i (c ∷ channels) own number
    later number from =
        let e : number ≡ i + suc (from.0) = (let before = from.2 in omega arith) in
        (suc (from.0), from.1, e, from.3, from.4)

    by : ((m : ℕ) → m < length (numbers_from (suc i) own channels) → IsFrom (suc i) channels own (get_or (numbers_from (suc i) own channels) m 0))
        → (b : Bool) → own c ≡ b → (m : ℕ) → m < length (cond b (i ∷ numbers_from (suc i) own channels) (numbers_from (suc i) own channels))
        → IsFrom i (c ∷ channels) own (get_or (cond b (i ∷ numbers_from (suc i) own channels) (numbers_from (suc i) own channels)) m 0)
    by rest true mine zero less = (0, c, omega arith, refl, mine)
    by rest true mine (suc m) less = later (get_or (numbers_from (suc i) own channels) m 0) (rest m (omega arith))
    by rest false mine m less = later (get_or (numbers_from (suc i) own channels) m 0) (rest m less)

-- its number stands in the list
abbrev Stands : ℕ → List ℕ → Type 0
Stands number numbers = (k : ℕ) × (k < length numbers) × (get_or numbers k 0 ≡ number)

stands_from : (own : Channel → Bool) (i : ℕ) (channels : List Channel) (j : ℕ) (c : Channel) → slice_get channels j ≡ Some c → own c ≡ true
    → Stands (i + j) (numbers_from i own channels)
stands_from own i [] j c is mine = absurd (let lt = slice_get_within [] j c is in omega arith)
stands_from own i (d ∷ channels) zero c is mine =
    let same : d ≡ c = cc in
    subst (λ b. Stands (i + 0) (cond b (i ∷ numbers_from (suc i) own channels) (numbers_from (suc i) own channels))) (sym (ap own same ∙ mine)) (
      0,
      omega arith,
      omega arith,
    )
stands_from own i (d ∷ channels) (suc j) c is mine = later (own d) (stands_from own (suc i) channels j c is mine)
  where
    later : (b : Bool) → Stands (suc i + j) (numbers_from (suc i) own channels)
        → Stands (i + suc j) (cond b (i ∷ numbers_from (suc i) own channels) (numbers_from (suc i) own channels))
    later true s = (let e = s.2 in (suc (s.0), omega (arith, s.1), omega arith))
    later false s = (let e = s.2 in (s.0, s.1, omega arith))

-- each number of the list is that of such a channel
pub own_at : (own : Channel → Bool) (channels : List Channel) (k : ℕ) → k < length (numbers_from 0 own channels) → (c : Channel)
    × (slice_get channels (get_or (numbers_from 0 own channels) k 0) ≡ Some c) × (own c ≡ true)
own_at own channels k lt =
    let from = own_from own 0 channels k lt in
    let e : get_or (numbers_from 0 own channels) k 0 ≡ from.0 = (let before = from.2 in omega arith) in
    (from.1, ap (slice_get channels) e ∙ from.3, from.4)

-- and each such channel has its number there
pub stands_at : (own : Channel → Bool) (channels : List Channel) (j : ℕ) (c : Channel) → slice_get channels j ≡ Some c → own c ≡ true → (k : ℕ)
    × (k < length (numbers_from 0 own channels)) × (get_or (numbers_from 0 own channels) k 0 ≡ j)
stands_at own channels j c is mine =
    let s = stands_from own 0 channels j c is mine in
    (s.0, s.1, (let e = s.2 in omega arith))

pub numbers_within : (own : Channel → Bool) (channels : List Channel) → All (λ i. i < length channels) (numbers_from 0 own channels)
numbers_within own channels = λ k d lt.
    (let at = own_at own channels k lt in
    let same : get_or (numbers_from 0 own channels) k d ≡ get_or (numbers_from 0 own channels) k 0 = get_or_default (numbers_from 0 own channels) k d 0 lt in
    let within = slice_get_within channels (get_or (numbers_from 0 own channels) k 0) at.0 at.1 in
    omega arith)

-- a channel whose number stands in the list is such a channel
pub own_end : (own : Channel → Bool) (channels : List Channel) (numbers : List ℕ) (k : ℕ) (c : Channel) → numbers ≡ numbers_from 0 own channels
    → k < length numbers → slice_get channels (get_or numbers k 0) ≡ Some c → own c ≡ true
own_end own channels numbers k c is lt at =
    let mine = own_at own channels k (let e = ap length is in omega arith) in
    let number : slice_get channels (get_or numbers k 0) ≡ Some (mine.0) = ap (λ ks. slice_get channels (get_or ks k 0)) is ∙ mine.1 in
    let same : mine.0 ≡ c = cc in
    ap own (sym same) ∙ mine.2

-- the numbers ascend
ascending : (own : Channel → Bool) (i : ℕ) (channels : List Channel) (j k : ℕ) → j < k → k < length (numbers_from i own channels)
    → get_or (numbers_from i own channels) j 0 < get_or (numbers_from i own channels) k 0
ascending own i [] j k less lt = absurd (omega arith)
ascending own i (c ∷ channels) j k less lt =
    by (own c) (λ m few. (let from = own_from own (suc i) channels m few in let e = from.2 in omega arith))
    (λ l m lower few. ascending own (suc i) channels l m lower few) j k less lt
  where
    by : (b : Bool) → ((m : ℕ) → m < length (numbers_from (suc i) own channels) → suc i ≤ get_or (numbers_from (suc i) own channels) m 0)
        → ((l m : ℕ) → l < m → m < length (numbers_from (suc i) own channels)
        → get_or (numbers_from (suc i) own channels) l 0 < get_or (numbers_from (suc i) own channels) m 0)
        → (l m : ℕ) → l < m → m < length (cond b (i ∷ numbers_from (suc i) own channels) (numbers_from (suc i) own channels))
        → get_or (cond b (i ∷ numbers_from (suc i) own channels) (numbers_from (suc i) own channels)) l 0
        < get_or (cond b (i ∷ numbers_from (suc i) own channels) (numbers_from (suc i) own channels)) m 0
    by true above rest l zero lower few = absurd (omega arith)
    by true above rest zero (suc m) lower few = (let h = above m (omega arith) in omega arith)
    by true above rest (suc l) (suc m) lower few = rest l m (omega arith) (omega arith)
    by false above rest l m lower few = rest l m lower few

-- no number stands there twice
pub numbers_apart : (own : Channel → Bool) (channels : List Channel) (numbers : List ℕ) (j k : ℕ) → numbers ≡ numbers_from 0 own channels → j < k
    → k < length numbers → get_or numbers j 0 ≡ get_or numbers k 0 → ⊥
numbers_apart own channels numbers j k is less lt same =
    let up = ascending own 0 channels j k less (let e = ap length is in omega arith) in
    let first = ap (λ ks. get_or ks j 0) is in
    let second = ap (λ ks. get_or ks k 0) is in
    absurd (omega arith)

pub input_end : (channels : List Channel) (numbers : List ℕ) (a k : ℕ) (c : Channel) → numbers ≡ inputs_of channels a → k < length numbers
    → slice_get channels (get_or numbers k 0) ≡ Some c → c.to ≡ a
input_end channels numbers a k c is lt at = eqb-true c.to a (own_end (λ d. d.to == a) channels numbers k c is lt at)

pub output_end : (channels : List Channel) (numbers : List ℕ) (a k : ℕ) (c : Channel) → numbers ≡ outputs_of channels a → k < length numbers
    → slice_get channels (get_or numbers k 0) ≡ Some c → c.from ≡ a
output_end channels numbers a k c is lt at = eqb-true c.from a (own_end (λ d. d.from == a) channels numbers k c is lt at)
