-- Closing channels one after another.
use Rattle.std.proofs.Common.{◌≡◌, ◌≢◌, ℕ, zero, suc, ◌+◌, ◌-◌, ◌<◌, ◌≤◌, ◌==◌, ◌&&◌, ◌||◌, cond, inl, inr, List, [], ◌∷◌, ◌++◌, length, map, filter, get_or}
use Rattle.std.proofs.Common.{set, take, refl, ap, sym, subst, ◌∙◌, arith, append-nil, append_assoc, Bool, true, false, not, eqb-true, eq-eqb}
use Rattle.std.specs.List.{range_with_len, AllByRecursion}
use Rattle.std.specs.Prelude.{slice_index_or}
use Rattle.std.proofs.lemmas.List.{take_more, get_or-set_other, map-append}
use Rattle.std.proofs.lemmas.Bool.Decides.{eqb_tells}
use Rattle.std.proofs.lemmas.List.Elements.{recursion_from_All}
use Rattle.csdf_model.specs.Graph.{numbers_from}
use Rattle.csdf_core.specs.Moves.{Move}
use Rattle.csdf_core.specs.Moves.{Close}
use Rattle.csdf_core.specs.Next.{next}
use Rattle.csdf_core.specs.Plan.{Channel, Plan, from_at}
use Rattle.csdf_core.specs.Ports.{outputs_at}
use Rattle.csdf_core.specs.State.{Present}
use Rattle.csdf_core.specs.Step.{is_open, is_over, producer}
use Rattle.csdf_core.proofs.PhaseLemmas.{numbers_own}
use Rattle.csdf_floor.specs.Floor.{FloorView, HasGone, closes}
use Rattle.csdf_floor.specs.Inside.{BookView, IsNext, AreClosed, is_due, is_in}

-- ---- numbers that rise

-- each of the numbers is greater than the one before it, and the first is at least m
abbrev pub IsRising : ℕ → List ℕ → Type 0
IsRising m [] = Unit {0}
IsRising m (n ∷ ns) = (m ≤ n) × IsRising (suc n) ns

rising_from : (m k : ℕ) (ns : List ℕ) → k ≤ m → IsRising m ns → IsRising k ns
rising_from m k [] le r = tt
rising_from m k (n ∷ ns) le r = ((let h = r.0 in omega arith), r.1)

pub rising_numbers : {A : Type 0} (test : A → Bool) (i : ℕ) (xs : List A) → IsRising i (numbers_from i test xs)
rising_numbers test i [] = tt
rising_numbers test i (x ∷ xs) = by (test x) (rising_numbers test (suc i) xs)
  where
    by : (b : Bool) → IsRising (suc i) (numbers_from (suc i) test xs) → IsRising i (cond b (i ∷ numbers_from (suc i) test xs) (numbers_from (suc i) test xs))
    by true rest = ((let e : i ≤ i = omega arith in e), rest)
    by false rest = rising_from (suc i) i (numbers_from (suc i) test xs) (omega arith) rest

pub rising_range : (a n : ℕ) → IsRising a (range_with_len a n)
rising_range a zero = tt
rising_range a (suc n) = (
  (let e : a ≤ a = omega arith in e),
  subst (λ m. IsRising m (range_with_len (a + 1) n)) (let e : a + 1 ≡ suc a = omega arith in
      e) (rising_range (a + 1) n),
)

pub above : (m k : ℕ) (ns : List ℕ) → IsRising m ns → k < length ns → m ≤ get_or ns k 0
above m k [] r lt = absurd (omega arith)
above m zero (n ∷ ns) r lt = r.0
above m (suc k) (n ∷ ns) r lt = let h = above (suc n) k ns r.1 (omega arith) in let l = r.0 in omega arith

or_false : (b c : Bool) → b ≡ false → c ≡ false → (b || c) ≡ false
or_false true c e f = absurd (cc)
or_false false c e f = f

ne_eqb : (m n : ℕ) → m ≢ n → (m == n) ≡ false
ne_eqb m n ne = elim (eqb_tells m n) [
  | inl e ↦ absurd (ne e.1)
  | inr e ↦ e.0
]

-- none stands before itself
not_before : (m k : ℕ) (ns : List ℕ) → IsRising m ns → k < length ns → is_in (get_or ns k 0) (take k ns) ≡ false
not_before m k [] r lt = absurd (omega arith)
not_before m zero (n ∷ ns) r lt = refl
not_before m (suc k) (n ∷ ns) r lt =
    let h = above (suc n) k ns r.1 (omega arith) in
    or_false (n == get_or ns k 0) (is_in (get_or ns k 0) (take k ns)) (ne_eqb n (get_or ns k 0) (λ e. absurd (omega arith)))
    (not_before (suc n) k ns r.1 (omega arith))

in_more : (n m : ℕ) (ns : List ℕ) → is_in n (ns ++ m ∷ []) ≡ (is_in n ns || m == n)
in_more n m [] = or_nil (m == n)
  where
    or_nil : (b : Bool) → (b || false) ≡ b
    or_nil true = refl
    or_nil false = refl
in_more n m (k ∷ ns) = ap (λ b. k == n || b) (in_more n m ns) ∙ or_assoc (k == n) (is_in n ns) (m == n)
  where
    or_assoc : (a b c : Bool) → (a || (b || c)) ≡ ((a || b) || c)
    or_assoc true b c = refl
    or_assoc false b c = refl

filter_more : (test : ℕ → Bool) (ns : List ℕ) (m : ℕ) → filter test (ns ++ m ∷ []) ≡ filter test ns ++ cond (test m) (m ∷ []) []
filter_more test [] m = refl
filter_more test (n ∷ ns) m = by (test n) (filter_more test ns m)
  where
    by : (b : Bool) → filter test (ns ++ m ∷ []) ≡ filter test ns ++ cond (test m) (m ∷ []) []
        → cond b (n ∷ filter test (ns ++ m ∷ [])) (filter test (ns ++ m ∷ [])) ≡ cond b (n ∷ filter test ns) (filter test ns) ++ cond (test m) (m ∷ []) []
    by true rest = cc
    by false rest = rest

-- the producer of an output of the actor
-- the numbers of an actor's outputs, from number i on
abbrev pub outputs_from : ℕ → ℕ → List Channel → List ℕ
outputs_from a i cs = numbers_from i (λ (c : Channel). c.from == a) cs

pub from_actor : (a i k : ℕ) (cs : List Channel) → k < length (outputs_from a i cs)
    → get_or (map (λ (c : Channel). c.from) cs) (get_or (outputs_from a i cs) k 0 - i) 0 ≡ a
from_actor a i k [] lt = absurd (omega arith)
from_actor a i k (c ∷ cs) lt = by (c.from == a) refl (λ j near. from_actor a (suc i) j cs near) k lt
  where
    makers : List ℕ
    makers = map (λ (d : Channel). d.from) (c ∷ cs)

    later : ((j : ℕ) → j < length (outputs_from a (suc i) cs)
        → get_or (map (λ (d : Channel). d.from) cs) (get_or (outputs_from a (suc i) cs) j 0 - suc i) 0 ≡ a)
        → (j : ℕ) → j < length (outputs_from a (suc i) cs) → get_or makers (get_or (outputs_from a (suc i) cs) j 0 - i) 0 ≡ a
    later rest j near =
        let n : ℕ = get_or (outputs_from a (suc i) cs) j 0 in
        let low : suc i ≤ n = above (suc i) j (outputs_from a (suc i) cs) (rising_numbers (λ (d : Channel). d.from == a) (suc i) cs) near in
        let e : n - i ≡ suc (n - suc i) = omega arith in
        ap (λ m. get_or makers m 0) e ∙ rest j near

    by : (b : Bool) → (c.from == a) ≡ b → ((j : ℕ) → j < length (outputs_from a (suc i) cs)
        → get_or (map (λ (d : Channel). d.from) cs) (get_or (outputs_from a (suc i) cs) j 0 - suc i) 0 ≡ a)
        → (j : ℕ) → j < length (cond b (i ∷ outputs_from a (suc i) cs) (outputs_from a (suc i) cs))
        → get_or makers (get_or (cond b (i ∷ outputs_from a (suc i) cs) (outputs_from a (suc i) cs)) j 0 - i) 0 ≡ a
    by true is rest zero near = (let e : i - i ≡ 0 = omega arith in ap (λ m. get_or makers m 0) e) ∙ eqb-true c.from a is
    by true is rest (suc j) near = later rest j (omega arith)
    by false is rest j near = later rest j near

-- what is below all of them is none of them
below_all : (m c : ℕ) (ns : List ℕ) → IsRising m ns → c < m → is_in c ns ≡ false
below_all m c [] r lt = refl
below_all m c (n ∷ ns) r lt =
    or_false (n == c) (is_in c ns) (ne_eqb n c (λ e. absurd (let h = r.0 in omega arith))) (below_all (suc n) c ns r.1 (let h = r.0 in omega arith))

-- a channel is among the outputs of an actor where the actor is its producer
pub in_outputs : (a i c : ℕ) (cs : List Channel) → i ≤ c → c < i + length cs
    → is_in c (outputs_from a i cs) ≡ (get_or (map (λ (d : Channel). d.from) cs) (c - i) 0 == a)
in_outputs a i c [] le lt = absurd (omega arith)
in_outputs a i c (d ∷ cs) le lt = elim (eqb_tells i c) [
  | inl e ↦
      (let same = e.1 in let at : c - i ≡ 0 = omega arith in let low : c < suc i = omega arith in
      head e.0 low (d.from == a) ∙ sym (ap (λ k. get_or makers k 0 == a) at))
  | inr e ↦
      (let ne = e.1 in let past : suc i ≤ c = omega (arith, ne) in let at : c - i ≡ suc (c - suc i) = omega arith in
      tail e.0 (d.from == a) ∙ in_outputs a (suc i) c cs past (omega arith) ∙ sym (ap (λ k. get_or makers k 0 == a) at))
]
  where
    makers : List ℕ
    makers = map (λ (e : Channel). e.from) (d ∷ cs)

    rest : List ℕ
    rest = outputs_from a (suc i) cs

    head : (i == c) ≡ true → c < suc i → (b : Bool) → is_in c (cond b (i ∷ rest) rest) ≡ b
    head is low true = ap (λ b. b || is_in c rest) is
    head is low false = below_all (suc i) c rest (rising_numbers (λ (e : Channel). e.from == a) (suc i) cs) low

    tail : (i == c) ≡ false → (b : Bool) → is_in c (cond b (i ∷ rest) rest) ≡ is_in c rest
    tail is true = ap (λ b. b || is_in c rest) is
    tail is false = refl

-- ---- one channel after the other

pub closed_none : (f : FloorView) (cs : List ℕ) → AreClosed f f (take 0 cs)
closed_none f cs = record {
  gone = record { work = refl; journal = sym (append-nil f.journal); keeps = refl };
  plan = refl;
  counts = refl;
  stages = refl;
  opens = λ c. sym (and_true (is_open f.core.now c));
}
  where
    and_true : (b : Bool) → (b && true) ≡ b
    and_true true = refl
    and_true false = refl

-- ---- where the producer goes on none is due
and_none : (b c : Bool) → c ≡ false → (b && c) ≡ false
and_none true c is = is
and_none false c is = refl

none_due : (plan : Plan) (p : Present) (cs : List ℕ) → AllByRecursion (λ c. is_over plan p (producer plan c) ≡ false) cs → filter (is_due plan p) cs ≡ []
none_due plan p [] all = refl
none_due plan p (c ∷ cs) all =
    ap (λ b. cond b (c ∷ filter (is_due plan p) cs) (filter (is_due plan p) cs)) (and_none (is_open p c) (is_over plan p (producer plan c)) all.0)
    ∙ none_due plan p cs all.1

none_among : (plan : Plan) (p : Present) (c : ℕ) (cs : List ℕ) → AllByRecursion (λ d. is_over plan p (producer plan d) ≡ false) cs
    → (is_in c cs && is_over plan p (producer plan c)) ≡ false
none_among plan p c [] all = refl
none_among plan p c (d ∷ cs) all = elim (eqb_tells d c) [
  | inl e ↦ and_none (is_in c (d ∷ cs)) (is_over plan p (producer plan c)) (ap (λ x. is_over plan p (producer plan x)) (sym e.1) ∙ all.0)
  | inr e ↦ ap (λ b. (b || is_in c cs) && is_over plan p (producer plan c)) e.0 ∙ none_among plan p c cs all.1
]

pub closed_nothing : (f : FloorView) (cs : List ℕ) → AllByRecursion (λ c. is_over f.core.plan f.core.now (producer f.core.plan c) ≡ false) cs
    → AreClosed f f cs
closed_nothing f cs all = record {
  gone = record {
    work = refl;
    journal = sym (ap (λ (ns : List ℕ). f.journal ++ map Close ns) (none_due f.core.plan f.core.now cs all) ∙ append-nil f.journal);
    keeps = refl;
  };
  plan = refl;
  counts = refl;
  stages = refl;
  opens = λ c. sym (ap (λ b. is_open f.core.now c && not b) (none_among f.core.plan f.core.now c cs all) ∙ and_true (is_open f.core.now c));
}
  where
    and_true : (b : Bool) → (b && true) ≡ b
    and_true true = refl
    and_true false = refl

pub outputs_go_on : (plan : Plan) (p : Present) (a : ℕ) → is_over plan p a ≡ false
    → AllByRecursion (λ c. is_over plan p (producer plan c) ≡ false) (outputs_at plan.channels a)
outputs_go_on plan p a on =
    by (outputs_at plan.channels a) (recursion_from_All (λ c. from_at plan.channels c ≡ a) (outputs_at plan.channels a)
    (numbers_own (λ (c : Channel). c.from) a plan.channels))
  where
    by : (cs : List ℕ) → AllByRecursion (λ c. from_at plan.channels c ≡ a) cs → AllByRecursion (λ c. is_over plan p (producer plan c) ≡ false) cs
    by [] own = tt
    by (c ∷ cs) own = (ap (is_over plan p) own.0 ∙ on, by cs own.1)

pub over_same : (plan plan2 : Plan) (p p2 : Present) (a : ℕ) → plan2 ≡ plan → p2.counts ≡ p.counts → is_over plan2 p2 a ≡ is_over plan p a
over_same plan plan2 p p2 a same counts =
    ap (λ (u : Plan). is_over u p2 a) same ∙ ap (λ (ks : List ℕ). is_over plan (record { counts = ks; stages = p.stages; opens = p.opens; tokens = p.tokens })
    a) counts

-- which channels have been closed of those that are due
abbrev pub shut : FloorView → List ℕ → ℕ → Bool
shut f cs c = is_open f.core.now c && not (is_in c cs && is_over f.core.plan f.core.now (producer f.core.plan c))

shut_none : (f : FloorView) (cs : List ℕ) (c : ℕ) → is_in c cs ≡ false → shut f cs c ≡ is_open f.core.now c
shut_none f cs c out = ap (λ b. is_open f.core.now c && not (b && is_over f.core.plan f.core.now (producer f.core.plan c))) out
    ∙ and_true (is_open f.core.now c)
  where
    and_true : (b : Bool) → (b && true) ≡ b
    and_true true = refl
    and_true false = refl

shut_more : (f : FloorView) (cs : List ℕ) (c d : ℕ) → c ≢ d → shut f (cs ++ c ∷ []) d ≡ shut f cs d
shut_more f cs c d ne =
    ap (λ b. is_open f.core.now d && not (b && is_over f.core.plan f.core.now (producer f.core.plan d))) (in_more d c cs
    ∙ or_right (is_in d cs) (c == d) (ne_eqb c d ne))
  where
    or_right : (b e : Bool) → e ≡ false → (b || e) ≡ b
    or_right true e is = refl
    or_right false e is = is

-- the one that is looked at
shut_own : (f : FloorView) (cs : List ℕ) (c : ℕ) → shut f (cs ++ c ∷ []) c ≡ (is_open f.core.now c
    && not (is_over f.core.plan f.core.now (producer f.core.plan c)))
shut_own f cs c = ap (λ b. is_open f.core.now c && not (b && is_over f.core.plan f.core.now (producer f.core.plan c))) (in_more c c cs
    ∙ or_true (is_in c cs) (c == c) (eq-eqb c c refl))
  where
    or_true : (b e : Bool) → e ≡ true → (b || e) ≡ true
    or_true true e is = refl
    or_true false e is = is

closes_more : (plan : Plan) (p : Present) (cs : List ℕ) (c : ℕ) → closes plan p (cs ++ c ∷ []) ≡ closes plan p cs
    ++ map Close (cond (is_due plan p c) (c ∷ []) [])
closes_more plan p cs c = ap (map Close) (filter_more (is_due plan p) cs c) ∙ map-append Close (filter (is_due plan p) cs) (cond (is_due plan p c) (c ∷ []) [])

closed_at : (os : List Bool) (c : ℕ) → slice_index_or (set os c false) c false ≡ false
closed_at [] c = refl
closed_at (o ∷ os) zero = refl
closed_at (o ∷ os) (suc c) = closed_at os c

module _ (old mid new : FloorView) (cs : List ℕ) (c : ℕ) (done : AreClosed old mid cs) (out : is_in c cs ≡ false) where
  due_same : is_due mid.core.plan mid.core.now c ≡ is_due old.core.plan old.core.now c
  due_same =
      let open_same : is_open mid.core.now c ≡ is_open old.core.now c = done.opens c ∙ shut_none old cs c out in
      let maker : producer mid.core.plan c ≡ producer old.core.plan c = ap (λ (u : Plan). producer u c) done.plan in
      ap (λ b. b && is_over mid.core.plan mid.core.now (producer mid.core.plan c)) open_same
      ∙ ap (λ a. is_open old.core.now c && is_over mid.core.plan mid.core.now a) maker
      ∙ ap (λ b. is_open old.core.now c && b) (over_same old.core.plan mid.core.plan old.core.now mid.core.now (producer old.core.plan c) done.plan done.counts)

  -- it was due
  pub closed_one : is_due old.core.plan old.core.now c ≡ true → HasGone mid new (Close c ∷ []) → new.core.plan ≡ mid.core.plan
      → new.core.now ≡ next mid.core.plan mid.core.now (Close c) → AreClosed old new (cs ++ c ∷ [])
  closed_one due gone plan now = record {
    gone = record {
      work = gone.work ∙ done.gone.work;
      keeps = gone.keeps ∙ done.gone.keeps;
      journal = gone.journal
          ∙ ap (λ (js : List Move). js ++ Close c ∷ []) done.gone.journal
          ∙ append_assoc old.journal (closes old.core.plan old.core.now cs) (Close c ∷ [])
          ∙ ap (λ b. old.journal ++ (closes old.core.plan old.core.now cs ++ map Close (cond b (c ∷ []) []))) (sym due)
          ∙ ap (λ (js : List Move). old.journal ++ js) (sym (closes_more old.core.plan old.core.now cs c));
    };
    plan = plan ∙ done.plan;
    counts = ap (λ (p : Present). p.counts) now ∙ done.counts;
    stages = ap (λ (p : Present). p.stages) now ∙ done.stages;
    opens = λ d. ap (λ (p : Present). is_open p d) now ∙ elim (eqb_tells c d) [
      | inl e ↦
          ap (λ n. slice_index_or (set mid.core.now.opens c false) n false) (sym e.1)
          ∙ closed_at mid.core.now.opens c
          ∙ sym (shut_due due)
          ∙ sym (shut_own old cs c)
          ∙ ap (shut old (cs ++ c ∷ [])) e.1
      | inr e ↦ get_or-set_other mid.core.now.opens c d false false (λ q. e.1 (sym q)) ∙ done.opens d ∙ sym (shut_more old cs c d e.1)
    ];
  }
    where
      shut_due : is_due old.core.plan old.core.now c ≡ true
          → (is_open old.core.now c && not (is_over old.core.plan old.core.now (producer old.core.plan c))) ≡ false
      shut_due = by (is_open old.core.now c) (is_over old.core.plan old.core.now (producer old.core.plan c))
        where
          by : (b o : Bool) → (b && o) ≡ true → (b && not o) ≡ false
          by true true is = refl
          by true false is = absurd (cc)
          by false o is = refl

  -- it was not
  pub closed_other : is_due old.core.plan old.core.now c ≡ false → new ≡ mid → AreClosed old new (cs ++ c ∷ [])
  closed_other due same = subst (λ (f : FloorView). AreClosed old f (cs ++ c ∷ [])) (sym same) (record {
    gone = record {
      work = done.gone.work;
      keeps = done.gone.keeps;
      journal = done.gone.journal
          ∙ ap (λ (js : List Move). old.journal ++ js)
          (sym (append-nil (closes old.core.plan old.core.now cs)) ∙ ap (λ b. closes old.core.plan old.core.now cs ++ map Close (cond b (c ∷ []) [])) (sym due)
          ∙ sym (closes_more old.core.plan old.core.now cs c));
    };
    plan = done.plan;
    counts = done.counts;
    stages = done.stages;
    opens = λ d. elim (eqb_tells c d) [
      | inl e ↦ ap (is_open mid.core.now) (sym e.1) ∙ done.opens c ∙ shut_none old cs c out ∙ sym (shut_not due) ∙ sym (shut_own old cs c)
          ∙ ap (shut old (cs ++ c ∷ [])) e.1
      | inr e ↦ done.opens d ∙ sym (shut_more old cs c d e.1)
    ];
  })
    where
      shut_not : is_due old.core.plan old.core.now c ≡ false
          → (is_open old.core.now c && not (is_over old.core.plan old.core.now (producer old.core.plan c))) ≡ is_open old.core.now c
      shut_not = by (is_open old.core.now c) (is_over old.core.plan old.core.now (producer old.core.plan c))
        where
          by : (b o : Bool) → (b && o) ≡ false → (b && not o) ≡ b
          by true true is = absurd (cc)
          by true false is = refl
          by false o is = refl

-- one channel more was looked at
pub closed_more : (old : FloorView) (mid new : BookView) (cs : List ℕ) (k : ℕ) → IsRising 0 cs → k < length cs → AreClosed old mid.shown (take k cs)
    → (is_due mid.shown.core.plan mid.shown.core.now (get_or cs k 0) ≡ true → IsNext mid new (Close (get_or cs k 0)))
    → (is_due mid.shown.core.plan mid.shown.core.now (get_or cs k 0) ≡ false → new ≡ mid)
    → AreClosed old new.shown (take (k + 1) cs)
closed_more old mid new cs k rising lt done due other =
    let c : ℕ = get_or cs k 0 in
    let out : is_in c (take k cs) ≡ false = not_before 0 k cs rising lt in
    let same = due_same old mid.shown new.shown (take k cs) c done out in
    subst (AreClosed old new.shown) (sym (take_more cs k 0 lt)) (by (is_due old.core.plan old.core.now c) refl out same)
  where
    by : (b : Bool) → is_due old.core.plan old.core.now (get_or cs k 0) ≡ b → is_in (get_or cs k 0) (take k cs) ≡ false
        → is_due mid.shown.core.plan mid.shown.core.now (get_or cs k 0) ≡ is_due old.core.plan old.core.now (get_or cs k 0)
        → AreClosed old new.shown (take k cs ++ get_or cs k 0 ∷ [])
    by true is out same = (let n = due (same ∙ is) in closed_one old mid.shown new.shown (take k cs) (get_or cs k 0) done out is n.gone n.plan n.now)
    by false is out same = closed_other old mid.shown new.shown (take k cs) (get_or cs k 0) done out is (ap (λ (b : BookView). b.shown) (other (same ∙ is)))

-- it took one place of the room at most
pub room_more : (mid new : BookView) (c n k : ℕ) → n ≤ mid.room + k → (is_due mid.shown.core.plan mid.shown.core.now c ≡ true → IsNext mid new (Close c))
    → (is_due mid.shown.core.plan mid.shown.core.now c ≡ false → new ≡ mid) → n ≤ new.room + (k + 1)
room_more mid new c n k le due other = by (is_due mid.shown.core.plan mid.shown.core.now c) refl
  where
    by : (b : Bool) → is_due mid.shown.core.plan mid.shown.core.now c ≡ b → n ≤ new.room + (k + 1)
    by true is = (let one = (due is).room in omega arith)
    by false is = (let same = ap (λ (b : BookView). b.room) (other is) in omega arith)

pub closed_at_place : (old : FloorView) (mid new : BookView) (cs : List ℕ) (k c : ℕ) → c ≡ get_or cs k 0 → IsRising 0 cs → k < length cs
    → AreClosed old mid.shown (take k cs)
    → (is_due mid.shown.core.plan mid.shown.core.now c ≡ true → IsNext mid new (Close c))
    → (is_due mid.shown.core.plan mid.shown.core.now c ≡ false → new ≡ mid)
    → AreClosed old new.shown (take (k + 1) cs)
closed_at_place old mid new cs k c is rising lt done due other =
    closed_more old mid new cs k rising lt done
    (subst (λ n. is_due mid.shown.core.plan mid.shown.core.now n ≡ true → IsNext mid new (Close n)) is due)
    (subst (λ n. is_due mid.shown.core.plan mid.shown.core.now n ≡ false → new ≡ mid) is other)
