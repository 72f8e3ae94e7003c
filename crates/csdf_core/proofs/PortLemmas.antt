-- What a firing does to its actor's own channels, and what the model says of all channels.
use Rattle.std.proofs.Common.{◌≡◌, ℕ, zero, suc, ◌+◌, ◌<◌, ◌≤◌, ◌==◌, max, List, [], ◌∷◌, ◌++◌, length, get_or, set, take, drop, map, inl, inr, refl, ap, subst}
use Rattle.std.proofs.Common.{◌∙◌, sym, arith, append_assoc, append-nil, Bool, true, false, cond, Option, Some, None}
use Rattle.std.proofs.Common.{◌-◌, ap₂}
use Rattle.std.specs.Prelude.{ℤ, ◌&&◌, not, nat_lt, sum_by, find, All}
use Rattle.std.proofs.lemmas.List.{get_or_default, drop_all}
use Rattle.std.specs.List.{zip, flat_map, position_from, AllByRecursion}
use Rattle.std.proofs.lemmas.List.Sums.{sum_by-cons}
use Rattle.std.proofs.lemmas.Bool.{cases_Bool, le-ltb, eq-eqb, ne_eqb}
use Rattle.csdf_pool.specs.Pool.{Held, held_tokens}
use Rattle.csdf_model.specs.Graph.{numbers_from}
use Rattle.csdf_model.specs.Rates.{rate}
use Rattle.csdf_model.proofs.PortLemmas as graph
use Rattle.csdf_core.specs.Blocks.{fronts}
use Rattle.csdf_core.specs.Plan.{Channel, takes_of}
use Rattle.csdf_core.specs.Rows.{Row, is_closed, is_short, is_full, first, cut, joined, need, gift}
use Rattle.csdf_core.specs.Shows.{raised}
use Rattle.csdf_core.specs.Ports.{inputs_at, outputs_at, take_at, give_at, tokens_at, takes_over, taken_over, EnoughOver, puts_over, raise_over, closed_at}
use Rattle.csdf_core.specs.Ports.{short_at, own_take_at, full_at}

-- a place after a front
at_seam : {A : Type 0} (done : List A) (x d : A) (rest : List A) → get_or (done ++ x ∷ rest) (length done) d ≡ x
at_seam [] x d rest = refl
at_seam (y ∷ done) x d rest = at_seam done x d rest

set_seam : {A : Type 0} (done : List A) (x y : A) (rest : List A) → set (done ++ x ∷ rest) (length done) y ≡ (done ++ y ∷ []) ++ rest
set_seam [] x y rest = refl
set_seam (z ∷ done) x y rest = ap (λ t. z ∷ t) (set_seam done x y rest)

length_push : {A : Type 0} (done : List A) (x : A) → length (done ++ x ∷ []) ≡ suc (length done)
length_push [] x = refl
length_push (y ∷ done) x = ap suc (length_push done x)

-- one more done
step_seam : {A : Type 0} (done : List A) (x : A) (rest : List A) → (done ++ x ∷ []) ++ rest ≡ done ++ x ∷ rest
step_seam done x rest = append_assoc done (x ∷ []) rest

-- ---- the first of the own channels that passes a test
pub first_of_own : {A : Type 0} (own : Channel → Bool) (test : Channel × A → Bool) (t : ℕ → Bool) (i : ℕ) (cs : List Channel) (xs : List A)
    → length xs ≡ length cs → ((j : ℕ) (c : Channel) (x : A) → j < length cs → test (get_or cs j c, get_or xs j x) ≡ (own (get_or cs j c) && t (i + j)))
    → find t (numbers_from i own cs) ≡ position_from test i (zip cs xs)
first_of_own own test t i [] xs len says = refl
first_of_own own test t i (c ∷ cs) [] len says = absurd (omega arith)
first_of_own own test t i (c ∷ cs) (x ∷ xs) len says =
    let here : test (c, x) ≡ (own c && t i) = says 0 c x (omega arith) ∙ ap (λ k. own c && t k) (let e : i + 0 ≡ i = omega arith in e) in
    let rest : find t (numbers_from (suc i) own cs) ≡ position_from test (suc i) (zip cs xs) =
    first_of_own own test t (suc i) cs xs (omega arith)
    (λ j d y lt. says (suc j) d y (omega arith) ∙ ap (λ k. own (get_or cs j d) && t k) (let e : i + suc j ≡ suc i + j = omega arith in e)) in
    let next : i + 1 ≡ suc i = omega arith in
    by_cases (own c) (t i) here rest next refl
  where
    by_cases : (b u : Bool) → test (c, x) ≡ (b && u) → find t (numbers_from (suc i) own cs) ≡ position_from test (suc i) (zip cs xs) → i + 1 ≡ suc i
        → t i ≡ u → find t (cond b (i ∷ numbers_from (suc i) own cs) (numbers_from (suc i) own cs)) ≡ cond (test (c, x)) (Some i)
        (position_from test (i + 1) (zip cs xs))
    by_cases false u here rest next same = rw (here, next) rest
    by_cases true true here rest next same = rw (here, same) refl
    by_cases true false here rest next same = rw (here, same, next) rest

-- ---- amounts, one after another

at_place : {A : Type 0} (done : List A) (i : ℕ) (x d : A) (rest : List A) → length done ≡ i → get_or (done ++ x ∷ rest) i d ≡ x
at_place done i x d rest e = subst (λ k. get_or (done ++ x ∷ rest) k d ≡ x) e (at_seam done x d rest)

set_place : {A : Type 0} (done : List A) (i : ℕ) (x y : A) (rest : List A) → length done ≡ i → set (done ++ x ∷ rest) i y ≡ (done ++ y ∷ []) ++ rest
set_place done i x y rest e = subst (λ k. set (done ++ x ∷ rest) k y ≡ (done ++ y ∷ []) ++ rest) e (set_seam done x y rest)

one_done : {A : Type 0} (done : List A) (i : ℕ) (x : A) → length done ≡ i → length (done ++ x ∷ []) ≡ suc i
one_done done i x e = length_push done x ∙ ap suc e

module _ (own : Channel → Bool) (rate_of : Channel → ℕ) (amount : ℕ → ℕ) where
  -- the amounts are the rates of the channels from number i on
  pub record AreRates (i : ℕ) (cs : List Channel) : Type 0 where
    pub each : (j : ℕ) (d : Channel) → j < length cs → amount (i + j) ≡ rate_of (get_or cs j d)

  -- what an own channel moves, and any other
  abbrev moved : Channel → ℕ
  moved c = cond (own c) (rate_of c) 0

  first_rate : (i : ℕ) (c : Channel) (cs : List Channel) → AreRates i (c ∷ cs) → amount i ≡ rate_of c
  first_rate i c cs h = ap amount (let e : i ≡ i + 0 = omega arith in e) ∙ h.each 0 c (omega arith)

  more_rates : (i : ℕ) (c : Channel) (cs : List Channel) → AreRates i (c ∷ cs) → AreRates (suc i) cs
  more_rates i c cs h = record { each = λ j d lt. ap amount (let e : suc i + j ≡ i + suc j = omega arith in e) ∙ h.each (suc j) d (omega arith) }

  pub sum_over : (i : ℕ) (cs : List Channel) → AreRates i cs → sum_by amount (numbers_from i own cs) ≡ sum_by moved cs
  sum_over i [] h = refl
  sum_over i (c ∷ cs) h =
      let rest = sum_over (suc i) cs (more_rates i c cs h) in
      let here = first_rate i c cs h in
      elim (cases_Bool (own c)) [
        | inl o ↦
            let m : moved c ≡ rate_of c = ap (λ b. cond b (rate_of c) 0) o in
            let n : numbers_from i own (c ∷ cs) ≡ i ∷ numbers_from (suc i) own cs =
            ap (λ b. cond b (i ∷ numbers_from (suc i) own cs) (numbers_from (suc i) own cs)) o in
            ap (sum_by amount) n ∙ (let s : sum_by amount (i ∷ numbers_from (suc i) own cs) ≡ sum_by moved (c ∷ cs) = omega
            (arith, sum_by-cons amount i (numbers_from (suc i) own cs), sum_by-cons moved c cs, rest, here, m) in s)
        | inr o ↦
            let m : moved c ≡ 0 = ap (λ b. cond b (rate_of c) 0) o in
            let n : numbers_from i own (c ∷ cs) ≡ numbers_from (suc i) own cs =
            ap (λ b. cond b (i ∷ numbers_from (suc i) own cs) (numbers_from (suc i) own cs)) o in
            ap (sum_by amount) n ∙ (let s : sum_by amount (numbers_from (suc i) own cs) ≡ sum_by moved (c ∷ cs) = omega
            (arith, sum_by-cons moved c cs, rest, m) in s)
      ]

  pub takes_all : (i : ℕ) (done : List (List ℤ)) (cs : List Channel) (ts : List (List ℤ)) → length done ≡ i → length ts ≡ length cs → AreRates i cs
      → takes_over amount (numbers_from i own cs) (done ++ ts) ≡ done ++ map (λ (row : Row). drop (moved row.0) row.1) (zip cs ts)
  takes_all i done [] [] e len h = refl
  takes_all i done [] (t ∷ ts) e len h = absurd (omega arith)
  takes_all i done (c ∷ cs) [] e len h = absurd (omega arith)
  takes_all i done (c ∷ cs) (t ∷ ts) e len h = elim (cases_Bool (own c)) [
    | inl o ↦
        let m : moved c ≡ amount i = ap (λ b. cond b (rate_of c) 0) o ∙ sym (first_rate i c cs h) in
        let n : numbers_from i own (c ∷ cs) ≡ i ∷ numbers_from (suc i) own cs =
        ap (λ b. cond b (i ∷ numbers_from (suc i) own cs) (numbers_from (suc i) own cs)) o in
        let x : set (done ++ t ∷ ts) i (drop (amount i) (tokens_at (done ++ t ∷ ts) i)) ≡ (done ++ drop (moved c) t ∷ []) ++ ts =
        ap (λ u. set (done ++ t ∷ ts) i (drop (amount i) u)) (at_place done i t [] ts e) ∙ ap (λ k. set (done ++ t ∷ ts) i (drop k t)) (sym m)
        ∙ set_place done i t (drop (moved c) t) ts e in
        ap (λ ns. takes_over amount ns (done ++ t ∷ ts)) n ∙ ap (takes_over amount (numbers_from (suc i) own cs)) x
        ∙ takes_all (suc i) (done ++ drop (moved c) t ∷ []) cs ts (one_done done i (drop (moved c) t) e) (omega arith) (more_rates i c cs h)
        ∙ step_seam done (drop (moved c) t) (map (λ (row : Row). drop (moved row.0) row.1) (zip cs ts))
    | inr o ↦
        let m : moved c ≡ 0 = ap (λ b. cond b (rate_of c) 0) o in
        let n : numbers_from i own (c ∷ cs) ≡ numbers_from (suc i) own cs =
        ap (λ b. cond b (i ∷ numbers_from (suc i) own cs) (numbers_from (suc i) own cs)) o in
        ap (λ ns. takes_over amount ns (done ++ t ∷ ts)) n ∙ ap (takes_over amount (numbers_from (suc i) own cs)) (sym (step_seam done t ts))
        ∙ takes_all (suc i) (done ++ t ∷ []) cs ts (one_done done i t e) (omega arith) (more_rates i c cs h)
        ∙ step_seam done t (map (λ (row : Row). drop (moved row.0) row.1) (zip cs ts))
        ∙ ap (λ k. done ++ drop k t ∷ map (λ (row : Row). drop (moved row.0) row.1) (zip cs ts)) (sym m)
  ]

  pub taken_all : (i : ℕ) (done : List (List ℤ)) (cs : List Channel) (ts : List (List ℤ)) → length done ≡ i → length ts ≡ length cs → AreRates i cs
      → taken_over amount (numbers_from i own cs) (done ++ ts) ≡ flat_map (λ (row : Row). take (moved row.0) row.1) (zip cs ts)
  taken_all i done [] [] e len h = refl
  taken_all i done [] (t ∷ ts) e len h = absurd (omega arith)
  taken_all i done (c ∷ cs) [] e len h = absurd (omega arith)
  taken_all i done (c ∷ cs) (t ∷ ts) e len h = elim (cases_Bool (own c)) [
    | inl o ↦
        let m : moved c ≡ amount i = ap (λ b. cond b (rate_of c) 0) o ∙ sym (first_rate i c cs h) in
        let n : numbers_from i own (c ∷ cs) ≡ i ∷ numbers_from (suc i) own cs =
        ap (λ b. cond b (i ∷ numbers_from (suc i) own cs) (numbers_from (suc i) own cs)) o in
        let at : tokens_at (done ++ t ∷ ts) i ≡ t = at_place done i t [] ts e in
        let x : set (done ++ t ∷ ts) i (drop (amount i) (tokens_at (done ++ t ∷ ts) i)) ≡ (done ++ drop (moved c) t ∷ []) ++ ts =
        ap (λ u. set (done ++ t ∷ ts) i (drop (amount i) u)) at ∙ ap (λ k. set (done ++ t ∷ ts) i (drop k t)) (sym m)
        ∙ set_place done i t (drop (moved c) t) ts e in
        ap (λ ns. taken_over amount ns (done ++ t ∷ ts)) n
        ∙ ap (λ u. take (amount i) u ++ taken_over amount (numbers_from (suc i) own cs)
        (set (done ++ t ∷ ts) i (drop (amount i) (tokens_at (done ++ t ∷ ts) i)))) at
        ∙ ap (λ k. take k t ++ taken_over amount (numbers_from (suc i) own cs) (set (done ++ t ∷ ts) i (drop (amount i) (tokens_at (done ++ t ∷ ts) i))))
        (sym m)
        ∙ ap (λ all. take (moved c) t ++ taken_over amount (numbers_from (suc i) own cs) all) x
        ∙ ap (λ xs. take (moved c) t ++ xs)
        (taken_all (suc i) (done ++ drop (moved c) t ∷ []) cs ts (one_done done i (drop (moved c) t) e) (omega arith) (more_rates i c cs h))
    | inr o ↦
        let m : moved c ≡ 0 = ap (λ b. cond b (rate_of c) 0) o in
        let n : numbers_from i own (c ∷ cs) ≡ numbers_from (suc i) own cs =
        ap (λ b. cond b (i ∷ numbers_from (suc i) own cs) (numbers_from (suc i) own cs)) o in
        ap (λ ns. taken_over amount ns (done ++ t ∷ ts)) n ∙ ap (taken_over amount (numbers_from (suc i) own cs)) (sym (step_seam done t ts))
        ∙ taken_all (suc i) (done ++ t ∷ []) cs ts (one_done done i t e) (omega arith) (more_rates i c cs h)
        ∙ ap (λ k. take k t ++ flat_map (λ (row : Row). take (moved row.0) row.1) (zip cs ts)) (sym m)
  ]

  pub fronts_all : (i : ℕ) (done : List (List ℤ)) (cs : List Channel) (ts : List (List ℤ)) → length done ≡ i → length ts ≡ length cs → AreRates i cs
      → flat_map (λ (row : Row). take (moved row.0) row.1) (zip cs ts) ≡ fronts amount (numbers_from i own cs) (tokens_at (done ++ ts))
  fronts_all i done [] [] e len h = refl
  fronts_all i done [] (t ∷ ts) e len h = absurd (omega arith)
  fronts_all i done (c ∷ cs) [] e len h = absurd (omega arith)
  fronts_all i done (c ∷ cs) (t ∷ ts) e len h =
      let others : List ℤ = flat_map (λ (row : Row). take (moved row.0) row.1) (zip cs ts) in
      let later : others ≡ fronts amount (numbers_from (suc i) own cs) (tokens_at (done ++ t ∷ ts)) =
      fronts_all (suc i) (done ++ t ∷ []) cs ts (one_done done i t e) (omega arith) (more_rates i c cs h)
      ∙ ap (λ us. fronts amount (numbers_from (suc i) own cs) (tokens_at us)) (step_seam done t ts) in
      elim (cases_Bool (own c)) [
        | inl o ↦
            let m : moved c ≡ amount i = ap (λ b. cond b (rate_of c) 0) o ∙ sym (first_rate i c cs h) in
            let n : numbers_from i own (c ∷ cs) ≡ i ∷ numbers_from (suc i) own cs =
            ap (λ b. cond b (i ∷ numbers_from (suc i) own cs) (numbers_from (suc i) own cs)) o in
            let at : tokens_at (done ++ t ∷ ts) i ≡ t = at_place done i t [] ts e in
            ap₂ (λ (x y : List ℤ). x ++ y) (ap (λ k. take k t) m ∙ ap (take (amount i)) (sym at)) later
            ∙ ap (λ ns. fronts amount ns (tokens_at (done ++ t ∷ ts))) (sym n)
        | inr o ↦
            let m : moved c ≡ 0 = ap (λ b. cond b (rate_of c) 0) o in
            let n : numbers_from i own (c ∷ cs) ≡ numbers_from (suc i) own cs =
            ap (λ b. cond b (i ∷ numbers_from (suc i) own cs) (numbers_from (suc i) own cs)) o in
            ap (λ k. take k t ++ others) m ∙ later ∙ ap (λ ns. fronts amount ns (tokens_at (done ++ t ∷ ts))) (sym n)
      ]

  pub enough_all : (i : ℕ) (done : List (List ℤ)) (cs : List Channel) (ts : List (List ℤ)) → length done ≡ i → length ts ≡ length cs → AreRates i cs
      → AllByRecursion (λ (row : Row). moved row.0 ≤ length row.1) (zip cs ts) → EnoughOver amount (numbers_from i own cs) (done ++ ts)
  enough_all i done [] [] e len h there = tt
  enough_all i done [] (t ∷ ts) e len h there = absurd (omega arith)
  enough_all i done (c ∷ cs) [] e len h there = absurd (omega arith)
  enough_all i done (c ∷ cs) (t ∷ ts) e len h there = elim (cases_Bool (own c)) [
    | inl o ↦
        let m : moved c ≡ amount i = ap (λ b. cond b (rate_of c) 0) o ∙ sym (first_rate i c cs h) in
        let n : numbers_from i own (c ∷ cs) ≡ i ∷ numbers_from (suc i) own cs =
        ap (λ b. cond b (i ∷ numbers_from (suc i) own cs) (numbers_from (suc i) own cs)) o in
        let at : tokens_at (done ++ t ∷ ts) i ≡ t = at_place done i t [] ts e in
        let x : set (done ++ t ∷ ts) i (drop (amount i) (tokens_at (done ++ t ∷ ts) i)) ≡ (done ++ drop (moved c) t ∷ []) ++ ts =
        ap (λ u. set (done ++ t ∷ ts) i (drop (amount i) u)) at ∙ ap (λ k. set (done ++ t ∷ ts) i (drop k t)) (sym m)
        ∙ set_place done i t (drop (moved c) t) ts e in
        let size : length (tokens_at (done ++ t ∷ ts) i) ≡ length t = ap length at in
        let fits : amount i ≤ length (tokens_at (done ++ t ∷ ts) i) = omega (arith, m, size, there.0) in
        subst (λ ns. EnoughOver amount ns (done ++ t ∷ ts)) (sym n) (
          fits,
          subst (EnoughOver amount (numbers_from (suc i) own cs)) (sym x)
              (enough_all (suc i) (done ++ drop (moved c) t ∷ []) cs ts (one_done done i (drop (moved c) t) e) (omega arith) (more_rates i c cs h) there.1),
        )
    | inr o ↦
        let n : numbers_from i own (c ∷ cs) ≡ numbers_from (suc i) own cs =
        ap (λ b. cond b (i ∷ numbers_from (suc i) own cs) (numbers_from (suc i) own cs)) o in
        subst (λ ns. EnoughOver amount ns (done ++ t ∷ ts)) (sym n)
        (subst (EnoughOver amount (numbers_from (suc i) own cs)) (step_seam done t ts)
        (enough_all (suc i) (done ++ t ∷ []) cs ts (one_done done i t e) (omega arith) (more_rates i c cs h) there.1))
  ]

  pub puts_all : (i : ℕ) (done : List (List ℤ)) (cs : List Channel) (ts : List (List ℤ)) (v : List ℤ) → length done ≡ i → length ts ≡ length cs → AreRates i cs
      → puts_over amount (numbers_from i own cs) (done ++ ts) v ≡ done ++ joined ts (cut moved cs v)
  puts_all i done [] [] v e len h = refl
  puts_all i done [] (t ∷ ts) v e len h = absurd (omega arith)
  puts_all i done (c ∷ cs) [] v e len h = absurd (omega arith)
  puts_all i done (c ∷ cs) (t ∷ ts) v e len h = elim (cases_Bool (own c)) [
    | inl o ↦
        let m : moved c ≡ amount i = ap (λ b. cond b (rate_of c) 0) o ∙ sym (first_rate i c cs h) in
        let n : numbers_from i own (c ∷ cs) ≡ i ∷ numbers_from (suc i) own cs =
        ap (λ b. cond b (i ∷ numbers_from (suc i) own cs) (numbers_from (suc i) own cs)) o in
        let x : set (done ++ t ∷ ts) i (tokens_at (done ++ t ∷ ts) i ++ take (amount i) v) ≡ (done ++ (t ++ take (moved c) v) ∷ []) ++ ts =
        ap (λ u. set (done ++ t ∷ ts) i (u ++ take (amount i) v)) (at_place done i t [] ts e) ∙ ap (λ k. set (done ++ t ∷ ts) i (t ++ take k v)) (sym m)
        ∙ set_place done i t (t ++ take (moved c) v) ts e in
        ap (λ ns. puts_over amount ns (done ++ t ∷ ts) v) n ∙ ap (λ all. puts_over amount (numbers_from (suc i) own cs) all (drop (amount i) v)) x
        ∙ ap (λ k. puts_over amount (numbers_from (suc i) own cs) ((done ++ (t ++ take (moved c) v) ∷ []) ++ ts) (drop k v)) (sym m)
        ∙ puts_all (suc i) (done ++ (t ++ take (moved c) v) ∷ []) cs ts (drop (moved c) v) (one_done done i (t ++ take (moved c) v) e) (omega arith)
        (more_rates i c cs h)
        ∙ step_seam done (t ++ take (moved c) v) (joined ts (cut moved cs (drop (moved c) v)))
    | inr o ↦
        let m : moved c ≡ 0 = ap (λ b. cond b (rate_of c) 0) o in
        let n : numbers_from i own (c ∷ cs) ≡ numbers_from (suc i) own cs =
        ap (λ b. cond b (i ∷ numbers_from (suc i) own cs) (numbers_from (suc i) own cs)) o in
        ap (λ ns. puts_over amount ns (done ++ t ∷ ts) v) n ∙ ap (λ all. puts_over amount (numbers_from (suc i) own cs) all v) (sym (step_seam done t ts))
        ∙ puts_all (suc i) (done ++ t ∷ []) cs ts v (one_done done i t e) (omega arith) (more_rates i c cs h)
        ∙ step_seam done t (joined ts (cut moved cs v))
        ∙ ap (λ u. done ++ u ∷ joined ts (cut moved cs v)) (sym (append-nil t))
        ∙ ap (λ k. done ++ (t ++ take k v) ∷ joined ts (cut moved cs (drop k v))) (sym m)
  ]

-- ---- peaks
pub raise_all : (own : Channel → Bool) (i : ℕ) (done : List ℕ) (front : List (List ℤ)) (cs : List Channel) (ts : List (List ℤ)) (ps : List ℕ) → length done ≡ i
    → length front ≡ i → length ts ≡ length cs → length ps ≡ length cs
    → AllByRecursion (λ (row : Channel × (ℕ × List ℤ)). own row.0 ≡ false → length row.1.1 ≤ row.1.0) (zip cs (zip ps ts))
    → raise_over (numbers_from i own cs) (front ++ ts) (done ++ ps) ≡ done ++ raised ps ts
raise_all own i done front [] [] [] e f len lenp high = refl
raise_all own i done front [] (t ∷ ts) ps e f len lenp high = absurd (omega arith)
raise_all own i done front [] [] (p ∷ ps) e f len lenp high = absurd (omega arith)
raise_all own i done front (c ∷ cs) [] ps e f len lenp high = absurd (omega arith)
raise_all own i done front (c ∷ cs) (t ∷ ts) [] e f len lenp high = absurd (omega arith)
raise_all own i done front (c ∷ cs) (t ∷ ts) (p ∷ ps) e f len lenp high =
    let more = λ (x : ℕ). ap (λ all. raise_over (numbers_from (suc i) own cs) all ((done ++ x ∷ []) ++ ps)) (sym (step_seam front t ts))
    ∙ raise_all own (suc i) (done ++ x ∷ []) (front ++ t ∷ []) cs ts ps (one_done done i x e) (one_done front i t f) (omega arith) (omega arith) high.1
    ∙ step_seam done x (raised ps ts) in
    elim (cases_Bool (own c)) [
      | inl o ↦
          let n : numbers_from i own (c ∷ cs) ≡ i ∷ numbers_from (suc i) own cs =
          ap (λ b. cond b (i ∷ numbers_from (suc i) own cs) (numbers_from (suc i) own cs)) o in
          let x : set (done ++ p ∷ ps) i (max (get_or (done ++ p ∷ ps) i 0) (length (tokens_at (front ++ t ∷ ts) i))) ≡ (done ++ max p (length t) ∷ []) ++ ps =
          ap (λ q. set (done ++ p ∷ ps) i (max q (length (tokens_at (front ++ t ∷ ts) i)))) (at_place done i p 0 ps e)
          ∙ ap (λ u. set (done ++ p ∷ ps) i (max p (length u))) (at_place front i t [] ts f) ∙ set_place done i p (max p (length t)) ps e in
          ap (λ ns. raise_over ns (front ++ t ∷ ts) (done ++ p ∷ ps)) n ∙ ap (raise_over (numbers_from (suc i) own cs) (front ++ t ∷ ts)) x
          ∙ more (max p (length t))
      | inr o ↦
          let n : numbers_from i own (c ∷ cs) ≡ numbers_from (suc i) own cs =
          ap (λ b. cond b (i ∷ numbers_from (suc i) own cs) (numbers_from (suc i) own cs)) o in
          let le : length t ≤ p = high.0 o in
          let same : p ≡ max p (length t) = omega (arith, le) in
          ap (λ ns. raise_over ns (front ++ t ∷ ts) (done ++ p ∷ ps)) n
          ∙ ap (raise_over (numbers_from (suc i) own cs) (front ++ t ∷ ts)) (sym (step_seam done p ps)) ∙ more p ∙ ap (λ q. done ++ q ∷ raised ps ts) same
    ]

-- ---- numbers

pub numbers_within : (own : Channel → Bool) (cs : List Channel) → All (λ c. c < length cs) (numbers_from 0 own cs)
numbers_within own cs = graph.numbers_within own cs

-- ---- amounts by number

map_at : {A : Type 0} (f : A → ℕ) (xs : List A) (j : ℕ) (d : A) → j < length xs → get_or (map f xs) j 0 ≡ f (get_or xs j d)
map_at f [] j d lt = absurd (omega arith)
map_at f (x ∷ xs) zero d lt = refl
map_at f (x ∷ xs) (suc j) d lt = map_at f xs j d (omega arith)

-- the rates by number are those of the channels
pub rates_by_number : (own : Channel → Bool) (rate_of : Channel → ℕ) (cs : List Channel) → AreRates own rate_of (λ c. get_or (map rate_of cs) c 0) 0 cs
rates_by_number own rate_of cs =
    record { each = λ j d lt. ap (λ k. get_or (map rate_of cs) k 0) (let e : 0 + j ≡ j = omega arith in e) ∙ map_at rate_of cs j d lt }

-- ---- first closed, short and full

pub first_closed : (a : ℕ) (cs : List Channel) (os : List Bool) → length os ≡ length cs → find (closed_at os) (outputs_at cs a) ≡ first (is_closed a) cs os
first_closed a cs os len = first_of_own (λ c. c.from == a) (is_closed a) (closed_at os) 0 cs os len says
  where
    says : (j : ℕ) (c : Channel) (x : Bool) → j < length cs → is_closed a (get_or cs j c, get_or os j x) ≡ ((get_or cs j c).from == a && closed_at os (0 + j))
    says j c x lt = ap (λ o. (get_or cs j c).from == a && not o)
        (get_or_default os j x false (omega (arith, len)) ∙ ap (λ k. get_or os k false) (let e : j ≡ 0 + j = omega arith in e))

lt_none : (n : ℕ) (b : Bool) (r : ℕ) → nat_lt n (cond b r 0) ≡ (b && nat_lt n r)
lt_none n true r = refl
lt_none n false r = le-ltb n 0 (omega arith)

pub first_short : (a k : ℕ) (cs : List Channel) (ts : List (List ℤ)) → length ts ≡ length cs
    → find (short_at cs k ts) (inputs_at cs a) ≡ first (is_short a k) cs ts
first_short a k cs ts len = first_of_own (λ c. c.to == a) (is_short a k) (short_at cs k ts) 0 cs ts len says
  where
    says : (j : ℕ) (c : Channel) (x : List ℤ) → j < length cs
        → is_short a k (get_or cs j c, get_or ts j x) ≡ ((get_or cs j c).to == a && short_at cs k ts (0 + j))
    says j c x lt =
        let e : 0 + j ≡ j = omega arith in
        let t : get_or ts j x ≡ tokens_at ts (0 + j) = get_or_default ts j x [] (omega (arith, len)) ∙ ap (tokens_at ts) (sym e) in
        let r : rate (get_or cs j c).consume k ≡ take_at cs k (0 + j) = sym (map_at (λ (ch : Channel). rate ch.consume k) cs j c lt)
        ∙ ap (take_at cs k) (sym e) in
        lt_none (length (get_or ts j x)) ((get_or cs j c).to == a) (rate (get_or cs j c).consume k)
        ∙ ap (λ l. (get_or cs j c).to == a && nat_lt (length l) (rate (get_or cs j c).consume k)) t
        ∙ ap (λ n. (get_or cs j c).to == a && nat_lt (length (tokens_at ts (0 + j))) n) r

full_if : (b : Bool) (cap n r : ℕ) → (b && nat_lt cap (n + cond b r 0)) ≡ (b && nat_lt cap (n + r))
full_if true cap n r = refl
full_if false cap n r = refl

pub first_full : (a k : ℕ) (cs : List Channel) (ts : List (List ℤ)) → length ts ≡ length cs
    → find (full_at cs a k ts) (outputs_at cs a) ≡ first (is_full a k) cs ts
first_full a k cs ts len = first_of_own (λ c. c.from == a) (is_full a k) (full_at cs a k ts) 0 cs ts len says
  where
    says : (j : ℕ) (c : Channel) (x : List ℤ) → j < length cs
        → is_full a k (get_or cs j c, get_or ts j x) ≡ ((get_or cs j c).from == a && full_at cs a k ts (0 + j))
    says j c x lt =
        let e : 0 + j ≡ j = omega arith in
        let ch : Channel = get_or cs j c in
        let t : get_or ts j x ≡ tokens_at ts (0 + j) = get_or_default ts j x [] (omega (arith, len)) ∙ ap (tokens_at ts) (sym e) in
        let z : takes_of a k ch ≡ own_take_at cs a k (0 + j) = sym (map_at (takes_of a k) cs j c lt) ∙ ap (own_take_at cs a k) (sym e) in
        let r : rate ch.produce k ≡ give_at cs k (0 + j) = sym (map_at (λ (d : Channel). rate d.produce k) cs j c lt) ∙ ap (give_at cs k) (sym e) in
        let b : ch.capacity ≡ get_or (map (λ (d : Channel). d.capacity) cs) (0 + j) 0 = sym (map_at (λ (d : Channel). d.capacity) cs j c lt)
        ∙ ap (λ n. get_or (map (λ (d : Channel). d.capacity) cs) n 0) (sym e) in
        full_if (ch.from == a) ch.capacity (length (get_or ts j x) - takes_of a k ch) (rate ch.produce k)
        ∙ ap (λ l. ch.from == a && nat_lt ch.capacity (length l - takes_of a k ch + rate ch.produce k)) t
        ∙ ap (λ n. ch.from == a && nat_lt ch.capacity (length (tokens_at ts (0 + j)) - n + rate ch.produce k)) z
        ∙ ap (λ n. ch.from == a && nat_lt ch.capacity (length (tokens_at ts (0 + j)) - own_take_at cs a k (0 + j) + n)) r
        ∙ ap (λ n. ch.from == a && nat_lt n (length (tokens_at ts (0 + j)) - own_take_at cs a k (0 + j) + give_at cs k (0 + j))) b

-- ---- a search over numbers
pub find_here : (p : ℕ → Bool) (xs : List ℕ) (i d : ℕ) (total : Option ℕ) → i < length xs → p (get_or xs i d) ≡ true → find p (drop i xs) ≡ total
    → Some (get_or xs i d) ≡ total
find_here p [] i d total lt pass so_far = absurd (omega arith)
find_here p (x ∷ xs) zero d total lt pass so_far = sym (ap (λ b. cond b (Some x) (find p xs)) pass) ∙ so_far
find_here p (x ∷ xs) (suc i) d total lt pass so_far = find_here p xs i d total (omega arith) pass so_far

pub find_none : (p : ℕ → Bool) (xs : List ℕ) (i : ℕ) (total : Option ℕ) → length xs ≤ i → find p (drop i xs) ≡ total → None ≡ total
find_none p xs i total le so_far = sym (ap (find p) (drop_all i xs le)) ∙ so_far

-- what an actor's firing takes of one channel
pub own_take : (a k : ℕ) (cs : List Channel) (c : ℕ) → get_or (map (λ (ch : Channel). ch.to) cs) c 0 ≡ a → c < length cs → take_at cs k c ≡ own_take_at cs a k c
own_take a k [] c is lt = absurd (omega arith)
own_take a k (ch ∷ cs) zero is lt = sym (ap (λ b. cond b (rate ch.consume k) 0) (eq-eqb ch.to a is))
own_take a k (ch ∷ cs) (suc c) is lt = own_take a k cs c is (omega arith)

pub own_take_none : (a k : ℕ) (cs : List Channel) (c : ℕ) → (get_or (map (λ (ch : Channel). ch.to) cs) c 0 ≡ a → ⊥) → 0 ≡ own_take_at cs a k c
own_take_none a k [] c other = refl
own_take_none a k (ch ∷ cs) zero other = sym (ap (λ b. cond b (rate ch.consume k) 0) (ne_eqb ch.to a other))
own_take_none a k (ch ∷ cs) (suc c) other = own_take_none a k cs c other

-- ---- a pool's tokens where one chain changes
pub tokens_in-set : (chains : List (List Held)) (c : ℕ) (chain : List Held)
    → map held_tokens (set chains c chain) ≡ set (map held_tokens chains) c (held_tokens chain)
tokens_in-set [] c chain = refl
tokens_in-set (x ∷ chains) zero chain = refl
tokens_in-set (x ∷ chains) (suc c) chain = ap (λ ts. held_tokens x ∷ ts) (tokens_in-set chains c chain)

pub tokens_at-map : (chains : List (List Held)) (c : ℕ) → get_or (map held_tokens chains) c [] ≡ held_tokens (get_or chains c [])
tokens_at-map [] c = refl
tokens_at-map (x ∷ chains) zero = refl
tokens_at-map (x ∷ chains) (suc c) = tokens_at-map chains c

-- ---- sums over an actor's own channels
pub need_is : (a k : ℕ) (cs : List Channel) → sum_by (take_at cs k) (inputs_at cs a) ≡ need a k cs
need_is a k cs = sum_over (λ c. c.to == a) (λ c. rate c.consume k) (take_at cs k) 0 cs (rates_by_number (λ c. c.to == a) (λ c. rate c.consume k) cs)

pub gift_is : (a k : ℕ) (cs : List Channel) → sum_by (give_at cs k) (outputs_at cs a) ≡ gift a k cs
gift_is a k cs = sum_over (λ c. c.from == a) (λ c. rate c.produce k) (give_at cs k) 0 cs (rates_by_number (λ c. c.from == a) (λ c. rate c.produce k) cs)

pub sum_done : (f : ℕ → ℕ) (xs : List ℕ) (i s : ℕ) → length xs ≤ i → s + sum_by f (drop i xs) ≡ sum_by f xs → s ≡ sum_by f xs
sum_done f xs i s le so_far =
    let none : sum_by f (drop i xs) ≡ 0 = ap (sum_by f) (drop_all i xs le) in
    omega (arith, none, so_far)
