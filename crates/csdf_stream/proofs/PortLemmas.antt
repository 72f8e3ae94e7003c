-- The numbers of sources and sinks.
use Rattle.std.proofs.Common.{◌≡◌, ℕ, zero, suc, ◌+◌, ◌<◌, ◌≤◌, Bool, true, false, cond, List, [], ◌∷◌, ◌++◌, length, map, drop, get_or, append-nil, append_assoc, drop_of_length-le, refl, ap, sym, ◌∙◌, arith}
use Rattle.std.proofs.lemmas.List.{drop_more}
use Rattle.csdf_model.specs.declared.parts.Actor.{Actor as ActorCode}
use Rattle.csdf_model.specs.Graph.{Actor, actor_view}
use Rattle.csdf_stream.specs.Ports.{numbers_from}

-- the number in a place is that of an actor that is so
pub record IsNumber (is_so : Actor → Bool) (n : ℕ) (actors : List Actor) (x : ℕ) : Type 0 where
  pub least : n ≤ x
  pub within : x < n + length actors
  pub so : (d : Actor) → (i : ℕ) → i + n ≡ x → is_so (get_or actors i d) ≡ true

next_number : (is_so : Actor → Bool) (n : ℕ) (actor : Actor) (actors : List Actor) (x : ℕ) → IsNumber is_so (suc n) actors x → IsNumber is_so n (actor ∷ actors) x
next_number is_so n actor actors x is = record {
  least = (let low = is.least in omega arith);
  within = (let high = is.within in omega arith);
  so = so;
}
  where
    so : (d : Actor) → (i : ℕ) → i + n ≡ x → is_so (get_or (actor ∷ actors) i d) ≡ true
    so d zero at = absurd (let low = is.least in omega arith)
    so d (suc i) at = is.so d i (omega arith)

-- those of an actor more
module _ (is_so : Actor → Bool) (n : ℕ) (actor : Actor) (actors : List Actor) (e : ℕ)
    (more : (k : ℕ) → k < length (numbers_from is_so (suc n) actors) → IsNumber is_so (suc n) actors (get_or (numbers_from is_so (suc n) actors) k e)) where
  abbrev numbers : Bool → List ℕ
  numbers b = cond b (n ∷ numbers_from is_so (suc n) actors) (numbers_from is_so (suc n) actors)

  one_at : (b : Bool) → is_so actor ≡ b → (k : ℕ) → k < length (numbers b) → IsNumber is_so n (actor ∷ actors) (get_or (numbers b) k e)
  one_at true is zero lt = record {
    least = omega arith;
    within = omega arith;
    so = λ d i at. (let none : i ≡ 0 = omega arith in ap (λ (j : ℕ). is_so (get_or (actor ∷ actors) j d)) none ∙ is);
  }
  one_at true is (suc k) lt = next_number is_so n actor actors _ (more k (omega arith))
  one_at false other k lt = next_number is_so n actor actors _ (more k lt)

  one_ascends : ((j k : ℕ) → j < k → k < length (numbers_from is_so (suc n) actors)
      → get_or (numbers_from is_so (suc n) actors) j e < get_or (numbers_from is_so (suc n) actors) k e)
      → (b : Bool) (j k : ℕ) → j < k → k < length (numbers b) → get_or (numbers b) j e < get_or (numbers b) k e
  one_ascends rest true j zero lt within = absurd (omega arith)
  one_ascends rest true zero (suc k) lt within = (let low = (more k (omega arith)).least in omega arith)
  one_ascends rest true (suc j) (suc k) lt within = rest j k (omega arith) (omega arith)
  one_ascends rest false j k lt within = rest j k lt within

pub number_at : (is_so : Actor → Bool) (n : ℕ) (actors : List Actor) (k e : ℕ) → k < length (numbers_from is_so n actors)
    → IsNumber is_so n actors (get_or (numbers_from is_so n actors) k e)
number_at is_so n [] k e lt = absurd (omega arith)
number_at is_so n (actor ∷ actors) k e lt = one_at is_so n actor actors e (λ i inside. number_at is_so (suc n) actors i e inside) (is_so actor) refl k lt

-- they ascend, so they are apart
pub ascends : (is_so : Actor → Bool) (n : ℕ) (actors : List Actor) (j k e : ℕ) → j < k → k < length (numbers_from is_so n actors)
    → get_or (numbers_from is_so n actors) j e < get_or (numbers_from is_so n actors) k e
ascends is_so n [] j k e lt within = absurd (omega arith)
ascends is_so n (actor ∷ actors) j k e lt within =
    one_ascends is_so n actor actors e (λ i inside. number_at is_so (suc n) actors i e inside) (λ i m less inside. ascends is_so (suc n) actors i m e less inside)
    (is_so actor) j k lt within

-- ---- as the code gathers them

first_of : (is_so : Actor → Bool) (n : ℕ) (b : Bool) (x : Actor) (rows : List Actor) → is_so x ≡ b
    → numbers_from is_so n (x ∷ rows) ≡ cond b (n ∷ []) [] ++ numbers_from is_so (suc n) rows
first_of is_so n true x rows is = ap (λ c. cond c (n ∷ numbers_from is_so (suc n) rows) (numbers_from is_so (suc n) rows)) is
first_of is_so n false x rows is = ap (λ c. cond c (n ∷ numbers_from is_so (suc n) rows) (numbers_from is_so (suc n) rows)) is

pub numbers_next : (is_so : Actor → Bool) (actors : List ActorCode) (n : ℕ) (x : ActorCode) (wanted : Bool) (number : ℕ) (old new : List ℕ) → n < length actors
    → x ≡ get_or actors n x → wanted ≡ is_so (actor_view x) → number ≡ n
    → old ++ numbers_from is_so n (map actor_view (drop n actors)) ≡ numbers_from is_so 0 (map actor_view actors)
    → new ≡ old ++ cond wanted (number ∷ []) []
    → new ++ numbers_from is_so (n + 1) (map actor_view (drop (n + 1) actors)) ≡ numbers_from is_so 0 (map actor_view actors)
numbers_next is_so actors n x wanted number old new lt at is same so_far pushed =
    let later : suc n ≡ n + 1 = omega arith in
    let front : drop n actors ≡ x ∷ drop (n + 1) actors =
    drop_more actors n x lt ∙ ap (λ (y : ActorCode). y ∷ drop (n + 1) actors) (sym at) in
    ap (λ (ys : List ℕ). ys ++ numbers_from is_so (n + 1) (map actor_view (drop (n + 1) actors))) (pushed ∙ ap (λ (m : ℕ). old ++ cond wanted (m ∷ []) []) same)
    ∙ append_assoc old (cond wanted (n ∷ []) []) (numbers_from is_so (n + 1) (map actor_view (drop (n + 1) actors)))
    ∙ ap (λ (m : ℕ). old ++ (cond wanted (n ∷ []) [] ++ numbers_from is_so m (map actor_view (drop (n + 1) actors)))) (sym later)
    ∙ ap (λ (ys : List ℕ). old ++ ys) (sym (first_of is_so n wanted (actor_view x) (map actor_view (drop (n + 1) actors)) (sym is)))
    ∙ ap (λ (xs : List ActorCode). old ++ numbers_from is_so n (map actor_view xs)) (sym front)
    ∙ so_far

pub numbers_end : (is_so : Actor → Bool) (actors : List ActorCode) (n : ℕ) (old : List ℕ) → length actors ≤ n
    → old ++ numbers_from is_so n (map actor_view (drop n actors)) ≡ numbers_from is_so 0 (map actor_view actors)
    → old ≡ numbers_from is_so 0 (map actor_view actors)
numbers_end is_so actors n old le so_far =
    sym (append-nil old)
    ∙ ap (λ (xs : List ActorCode). old ++ numbers_from is_so n (map actor_view xs)) (sym (drop_of_length-le actors {i = n} le))
    ∙ so_far
