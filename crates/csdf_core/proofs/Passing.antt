-- What several firings leave in channels, one channel after another.
use Rattle.std.proofs.Common.{◌≡◌, ◌≢◌, ℕ, zero, suc, ◌+◌, ◌-◌, ◌<◌, ◌≤◌, ◌==◌, cond, Bool, true, false, inl, inr, List, [], ◌∷◌, ◌++◌, length, get_or, set, take, drop, map}
use Rattle.std.proofs.Common.{refl, ap, ap₂, subst, ◌∙◌, sym, arith, append_assoc, append-nil, length-set, get_or-set_same, get_or-set_other, set-set}
use Rattle.std.specs.Prelude.{ℤ, sum_by}
use Rattle.std.specs.List.{AllByRecursion}
use Rattle.std.proofs.lemmas.Bool.{eq-eqb}
use Rattle.std.proofs.lemmas.Bool.Decides.{eqb_tells}
use Rattle.std.proofs.lemmas.List.{drop_all, drop-append-le, drop-take, set-get_or}
use Rattle.std.proofs.lemmas.List.Sums.{sum_by-set}
use Rattle.csdf_model.specs.Graph.{numbers_from}
use Rattle.csdf_core.specs.Passing.{changed}
use Rattle.csdf_core.specs.Plan.{Channel}
use Rattle.csdf_core.specs.Ports.{tokens_at, takes_over, EnoughOver}
use Rattle.csdf_core.proofs.BlockPorts.{both}
use Rattle.csdf_core.proofs.BlockTokens.{drop_sum}

-- ---- so many tokens of two lists, the first one's before the other's
pub drop_both : (m : ℕ) (t u : List ℤ) → drop m (t ++ u) ≡ drop m t ++ drop (m - length t) u
drop_both zero t u = ap (λ (n : ℕ). t ++ drop n u) (let e : 0 ≡ 0 - length t = omega arith in e)
drop_both (suc m) [] u = ap (λ (n : ℕ). drop n u) (let e : suc m ≡ suc m - 0 = omega arith in e)
drop_both (suc m) (x ∷ t) u =
    drop_both m t u ∙ ap (λ (n : ℕ). drop m t ++ drop n u) (let e : m - length t ≡ suc m - suc (length t) = omega arith in e)

-- as many of the first as there are, and the rest of the other
pub drop_both_by : (m gone : ℕ) (t u : List ℤ) → gone ≤ m → gone ≤ length t → (gone < m → length t ≤ gone)
    → drop m (t ++ u) ≡ drop gone t ++ drop (m - gone) u
drop_both_by m gone t u le there all =
    ap (λ (n : ℕ). drop n (t ++ u)) (let e : m ≡ gone + (m - gone) = omega (arith, le) in e)
    ∙ drop_sum gone (m - gone) (t ++ u)
    ∙ ap (drop (m - gone)) (drop-append-le gone t u there)
    ∙ drop_both (m - gone) (drop gone t) u
    ∙ elim (eqb_tells gone m) [
      | inl e ↦
          (let none : m - gone ≡ 0 = (let s = e.1 in omega (arith, s)) in
          ap (λ (n : ℕ). drop n (drop gone t) ++ drop (n - length (drop gone t)) u) none
          ∙ ap (λ (n : ℕ). drop gone t ++ drop n u) (let z : 0 - length (drop gone t) ≡ m - gone = omega (arith, none) in z))
      | inr e ↦
          (let none : drop gone t ≡ [] = drop_all gone t (all (let ne = e.1 in omega (arith, le, ne))) in
          ap (λ (s : List ℤ). drop (m - gone) s ++ drop (m - gone - length s) u) none
          ∙ ap (λ (s : List ℤ). s ++ drop (m - gone - 0) u) (drop_all (m - gone) [] (omega arith))
          ∙ ap (λ (n : ℕ). drop n u) (let z : m - gone - 0 ≡ m - gone = omega arith in z)
          ∙ ap (λ (s : List ℤ). s ++ drop (m - gone) u) (sym none))
    ]

-- the first list and some of the other
pub drop_past : (m size : ℕ) (t u : List ℤ) → length t ≡ size → size ≤ m → drop m (t ++ u) ≡ drop (m - size) u
drop_past m size t u is le =
    drop_both_by m size t u le (omega (arith, is)) (λ less. omega (arith, is))
    ∙ ap (λ (s : List ℤ). s ++ drop (m - size) u) (drop_all size t (omega (arith, is)))

-- a part of a part
pub part_of : (from few own : ℕ) (w : List ℤ) → few ≤ own → take (from + own - (from + few)) (drop (from + few) w) ≡ drop few (take own (drop from w))
part_of from few own w le =
    ap₂ (λ (x : ℕ) (u : List ℤ). take x u) (let e : from + own - (from + few) ≡ own - few = omega (arith, le) in e) (drop_sum from few w)
    ∙ sym (drop-take few (own - few) (drop from w))
    ∙ ap (λ (x : ℕ). drop few (take x (drop from w))) (let e : few + (own - few) ≡ own = omega (arith, le) in e)

-- ---- each of the channels changed
module _ (make : ℕ → List ℤ → List ℤ) where
  pub length-changed : (ns : List ℕ) (ts : List (List ℤ)) → length (changed make ns ts) ≡ length ts
  length-changed [] ts = refl
  length-changed (c ∷ ns) ts = length-changed ns (set ts c (make c (tokens_at ts c))) ∙ length-set ts c (make c (tokens_at ts c))

  -- any other stays
  pub changed_other : (ns : List ℕ) (ts : List (List ℤ)) (c : ℕ) → AllByRecursion (λ d. c ≢ d) ns → tokens_at (changed make ns ts) c ≡ tokens_at ts c
  changed_other [] ts c all = refl
  changed_other (d ∷ ns) ts c all =
      changed_other ns (set ts d (make d (tokens_at ts d))) c all.1 ∙ get_or-set_other ts d c (make d (tokens_at ts d)) [] all.0

  -- where none of them gets shorter, the channels hold no less than before, and one of them finds room for what it gets
  pub grown : (ns : List ℕ) (ts : List (List ℤ)) → AllByRecursion (λ c. c < length ts) ns → AllByRecursion (λ c. (t : List ℤ) → length t ≤ length (make c t)) ns
      → sum_by length ts ≤ sum_by length (changed make ns ts)
  grown [] ts lt longer = omega arith
  grown (c ∷ ns) ts lt longer =
      let after : List (List ℤ) = set ts c (make c (tokens_at ts c)) in
      let same = length-set ts c (make c (tokens_at ts c)) in
      let rest = grown ns after (subst (λ (n : ℕ). AllByRecursion (λ d. d < n) ns) (sym same) lt.1) longer.1 in
      let here = sum_by-set length ts c (make c (tokens_at ts c)) [] lt.0 in
      let more = longer.0 (tokens_at ts c) in
      omega (arith, rest, here, more)

  pub room_for : (c : ℕ) (ns : List ℕ) (ts : List (List ℤ)) → AllByRecursion (λ d. d < length ts) (c ∷ ns)
      → AllByRecursion (λ d. (t : List ℤ) → length t ≤ length (make d t)) (c ∷ ns)
      → sum_by length ts + length (make c (tokens_at ts c)) ≤ sum_by length (changed make (c ∷ ns) ts) + length (tokens_at ts c)
  room_for c ns ts lt longer =
      let after : List (List ℤ) = set ts c (make c (tokens_at ts c)) in
      let same = length-set ts c (make c (tokens_at ts c)) in
      let rest = grown ns after (subst (λ (n : ℕ). AllByRecursion (λ d. d < n) ns) (sym same) lt.1) longer.1 in
      let here = sum_by-set length ts c (make c (tokens_at ts c)) [] lt.0 in
      omega (arith, rest, here)

-- what is taken of channels is one way to change them
pub takes_changed : (amount : ℕ → ℕ) (ns : List ℕ) (ts : List (List ℤ)) → takes_over amount ns ts ≡ changed (λ c. drop (amount c)) ns ts
takes_changed amount [] ts = refl
takes_changed amount (c ∷ ns) ts = takes_changed amount ns (set ts c (drop (amount c) (tokens_at ts c)))

-- ---- the actor's own channels, by their numbers, which ascend
module _ (own : Channel → Bool) where
  later_numbers : (c i : ℕ) (cs : List Channel) → c < i → AllByRecursion (λ d. c ≢ d) (numbers_from i own cs)
  later_numbers c i [] lt = tt
  later_numbers c i (x ∷ cs) lt = by (own x) (later_numbers c (suc i) cs (omega (arith, lt)))
    where
      by : (b : Bool) → AllByRecursion (λ d. c ≢ d) (numbers_from (suc i) own cs)
          → AllByRecursion (λ d. c ≢ d) (cond b (i ∷ numbers_from (suc i) own cs) (numbers_from (suc i) own cs))
      by true rest = ((λ e. absurd (omega (arith, e, lt))), rest)
      by false rest = rest

-- each of them gives up what it has
module _ (amount : ℕ → ℕ) (own : Channel → Bool) where
  pub enough_apart : (i : ℕ) (cs : List Channel) (ts : List (List ℤ)) → AllByRecursion (λ c. amount c ≤ length (tokens_at ts c)) (numbers_from i own cs)
      → EnoughOver amount (numbers_from i own cs) ts
  enough_apart i [] ts all = tt
  enough_apart i (x ∷ cs) ts all = by (own x) all (enough_apart (suc i) cs)
    where
      by : (b : Bool) → AllByRecursion (λ c. amount c ≤ length (tokens_at ts c)) (cond b (i ∷ numbers_from (suc i) own cs) (numbers_from (suc i) own cs))
          → ((us : List (List ℤ)) → AllByRecursion (λ c. amount c ≤ length (tokens_at us c)) (numbers_from (suc i) own cs)
          → EnoughOver amount (numbers_from (suc i) own cs) us)
          → EnoughOver amount (cond b (i ∷ numbers_from (suc i) own cs) (numbers_from (suc i) own cs)) ts
      by false h rest = rest ts h
      by true h rest = (
        h.0,
        rest (set ts i (drop (amount i) (tokens_at ts i)))
            (both (numbers_from (suc i) own cs)
            (λ c (ne : i ≢ c) (le : amount c ≤ length (tokens_at ts c)).
            (let same = ap length (get_or-set_other ts i c (drop (amount i) (tokens_at ts i)) [] (λ e. ne (sym e))) in
            let r : amount c ≤ length (tokens_at (set ts i (drop (amount i) (tokens_at ts i))) c) = omega (arith, le, same) in r))
            (later_numbers own i (suc i) cs (omega arith)) h.1),
      )

module _ (make : ℕ → List ℤ → List ℤ) (field : Channel → ℕ) (a : ℕ) where
  own_changed : (i : ℕ) (cs : List Channel) (ts : List (List ℤ)) (c : ℕ) → i + c < length ts → c < length cs → get_or (map field cs) c 0 ≡ a
      → tokens_at (changed make (numbers_from i (λ x. field x == a) cs) ts) (i + c) ≡ make (i + c) (tokens_at ts (i + c))
  own_changed i [] ts c lt there is = absurd (omega arith)
  own_changed i (x ∷ cs) ts zero lt there is =
      let later : List ℕ = numbers_from (suc i) (λ y. field y == a) cs in
      let e : i + 0 ≡ i = omega arith in
      ap (λ (b : Bool). tokens_at (changed make (cond b (i ∷ later) later) ts) (i + 0)) (eq-eqb (field x) a is)
      ∙ ap (tokens_at (changed make (i ∷ later) ts)) e
      ∙ changed_other make later (set ts i (make i (tokens_at ts i))) i (later_numbers (λ y. field y == a) i (suc i) cs (omega arith))
      ∙ get_or-set_same ts i (make i (tokens_at ts i)) [] (omega (arith, lt))
      ∙ ap (λ (n : ℕ). make n (tokens_at ts n)) (sym e)
  own_changed i (x ∷ cs) ts (suc c) lt there is =
      let later : List ℕ = numbers_from (suc i) (λ y. field y == a) cs in
      let e : i + suc c ≡ suc i + c = omega arith in
      let goal_at : List ℕ → Type 0 = λ ns. tokens_at (changed make ns ts) (suc i + c) ≡ make (suc i + c) (tokens_at ts (suc i + c)) in
      let step : goal_at (cond (field x == a) (i ∷ later) later) = elim (eqb_tells (field x) a) [
        | inl o ↦
            subst (λ (b : Bool). goal_at (cond b (i ∷ later) later)) (sym o.0)
            (let after : List (List ℤ) = set ts i (make i (tokens_at ts i)) in
            own_changed (suc i) cs after c (let l = length-set ts i (make i (tokens_at ts i)) in omega (arith, l, lt)) (omega (arith, there)) is
            ∙ ap (make (suc i + c)) (get_or-set_other ts i (suc i + c) (make i (tokens_at ts i)) [] (λ z. omega (arith, z))))
        | inr o ↦
            subst (λ (b : Bool). goal_at (cond b (i ∷ later) later)) (sym o.0)
            (own_changed (suc i) cs ts c (omega (arith, lt)) (omega (arith, there)) is)
      ] in
      subst (λ (n : ℕ). tokens_at (changed make (cond (field x == a) (i ∷ later) later) ts) n ≡ make n (tokens_at ts n)) (sym e) step

  pub changed_own : (cs : List Channel) (ts : List (List ℤ)) (c : ℕ) → length ts ≡ length cs → c < length cs → get_or (map field cs) c 0 ≡ a
      → tokens_at (changed make (numbers_from 0 (λ x. field x == a) cs) ts) c ≡ make c (tokens_at ts c)
  changed_own cs ts c queued lt is =
      subst (λ (n : ℕ). tokens_at (changed make (numbers_from 0 (λ x. field x == a) cs) ts) n ≡ make n (tokens_at ts n))
      (let e : 0 + c ≡ c = omega arith in e) (own_changed 0 cs ts c (omega (arith, queued, lt)) lt is)

-- ---- one firing's share more is put, but for its first few tokens
pub few_more : (few none own : ℕ) (share later : List ℤ) → length share ≡ own → none ≤ few → none ≤ own → (none < few → own ≤ none)
    → drop few (share ++ later) ≡ drop none share ++ drop (few - none) later
few_more few none own share later size le fits all =
    drop_both_by few none share later le (omega (arith, size, fits)) (λ less. (let h = all less in omega (arith, size, h)))

pub put_more : (c : ℕ) (ts new : List (List ℤ)) (first rest : List ℤ) → c < length ts → new ≡ set ts c (tokens_at ts c ++ first)
    → set new c (tokens_at new c ++ rest) ≡ set ts c (tokens_at ts c ++ (first ++ rest))
put_more c ts new first rest within put =
    ap (λ (us : List (List ℤ)). set us c (tokens_at us c ++ rest)) put
    ∙ ap (λ (u : List ℤ). set (set ts c (tokens_at ts c ++ first)) c (u ++ rest)) (get_or-set_same ts c (tokens_at ts c ++ first) [] within)
    ∙ set-set ts c (tokens_at ts c ++ first) ((tokens_at ts c ++ first) ++ rest)
    ∙ ap (set ts c) (append_assoc (tokens_at ts c) first rest)

pub put_none : (c few : ℕ) (ts : List (List ℤ)) → set ts c (tokens_at ts c ++ drop few []) ≡ ts
put_none c few ts =
    ap (λ (u : List ℤ). set ts c (tokens_at ts c ++ u)) (drop_all few [] (omega arith))
    ∙ ap (set ts c) (append-nil (tokens_at ts c))
    ∙ set-get_or ts c []
