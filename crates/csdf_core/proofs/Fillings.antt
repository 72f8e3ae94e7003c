-- Each channel gets its initial tokens, one channel after another.
use Rattle.std.proofs.Common.{◌≡◌, ℕ, zero, suc, ◌+◌, ◌<◌, ◌≤◌, List, [], ◌∷◌, ◌++◌, length, get_or, set, take, drop, map, replicate, refl, ap, ◌∙◌, sym, arith}
use Rattle.std.proofs.Common.{append_assoc}
use Rattle.std.specs.Prelude.{ℤ, sum_by}
use Rattle.std.proofs.lemmas.List.{drop_more, drop_all, length-map}
use Rattle.std.proofs.lemmas.List.Sums.{sum_by_more}
use Rattle.csdf_pool.specs.Pool.{Held, Shared, held_tokens, after_puts}
use Rattle.csdf_core.specs.Transfers.{filled_from}
use Rattle.csdf_core.proofs.PortLemmas.{tokens_at-map}

abbrev pub emptied : List (List ℤ) → List (List ℤ)
emptied xs = map (λ (x : List ℤ). []) xs

-- the first i channels hold theirs, the others nothing
abbrev pub filled : ℕ → List (List ℤ) → List (List ℤ)
filled i xs = take i xs ++ emptied (drop i xs)

next_at : (xs : List (List ℤ)) (i : ℕ) → i < length xs → set (filled i xs) i (get_or (filled i xs) i [] ++ get_or xs i []) ≡ filled (suc i) xs
next_at [] i lt = absurd (omega arith)
next_at (x ∷ xs) zero lt = refl
next_at (x ∷ xs) (suc i) lt = ap (λ l. x ∷ l) (next_at xs i (omega arith))

pub filled_more : (xs ts ts' : List (List ℤ)) (i : ℕ) (x : List ℤ) → i < length xs → ts ≡ filled i xs → x ≡ get_or xs i []
    → ts' ≡ set ts i (get_or ts i [] ++ x) → ts' ≡ filled (i + 1) xs
filled_more xs ts ts' i x lt is same new =
    new ∙ ap (λ (l : List (List ℤ)). set l i (get_or l i [] ++ x)) is ∙ ap (λ (y : List ℤ). set (filled i xs) i (get_or (filled i xs) i [] ++ y)) same
    ∙ next_at xs i lt
    ∙ ap (λ (n : ℕ). filled n xs) (let e : suc i ≡ i + 1 = omega arith in e)

pub filled_none : {A : Type 0} (f : A → List ℤ) (cs : List A) (n : ℕ) → n ≡ length cs → map held_tokens (replicate n []) ≡ filled 0 (map f cs)
filled_none {A = A} f cs n e = ap (λ m. map held_tokens (replicate m [])) e ∙ by cs
  where
    by : (l : List A) → map held_tokens (replicate (length l) []) ≡ filled 0 (map f l)
    by [] = refl
    by (c ∷ l) = ap (λ r. [] ∷ r) (by l)

-- the cells that are left free
pub free_more : (xs : List (List ℤ)) (i free free' cells : ℕ) (x : List ℤ) → i < length xs → x ≡ get_or xs i [] → free + sum_by length (take i xs) ≡ cells
    → free' + length x ≡ free → free' + sum_by length (take (i + 1) xs) ≡ cells
free_more xs i free free' cells x lt same before after =
    let more = sum_by_more length xs i [] lt in
    let len : length x ≡ length (get_or xs i []) = ap length same in
    omega arith

pub lengths_more : (chains : List (List Held)) (done all : List ℕ) (i n : ℕ) → i < length chains → n ≡ length (get_or chains i [])
    → done ++ map length (drop i (map held_tokens chains)) ≡ all → (done ++ n ∷ []) ++ map length (drop (i + 1) (map held_tokens chains)) ≡ all
lengths_more chains done all i n lt is so =
    let ts : List (List ℤ) = map held_tokens chains in
    let len : length ts ≡ length chains = length-map chains held_tokens in
    let here : n ≡ length (get_or ts i []) = is ∙ sym (length-map (get_or chains i []) (λ (h : Held). h.1)) ∙ ap length (sym (tokens_at-map chains i)) in
    append_assoc done (n ∷ []) (map length (drop (i + 1) ts)) ∙ ap (λ m. done ++ m ∷ map length (drop (i + 1) ts)) here
    ∙ ap (λ (l : List (List ℤ)). done ++ map length l) (sym (drop_more ts i [] (omega arith))) ∙ so

-- a pool by its parts
pub pool_is : (pool : Shared) (size : ℕ) (chains : List (List Held)) (free : List ℕ) → pool.size ≡ size → pool.chains ≡ chains → pool.free ≡ free
    → pool ≡ record { size = size; chains = chains; free = free }
pool_is pool size chains free same_size same_chains same_free =
    ap (λ (n : ℕ). record { size = n; chains = pool.chains; free = pool.free }) same_size
    ∙ ap (λ (cs : List (List Held)). record { size = size; chains = cs; free = pool.free }) same_chains
    ∙ ap (λ (fs : List ℕ). record { size = size; chains = chains; free = fs }) same_free

-- the cells, one channel later
pub cells_more : (xs : List (List ℤ)) (i : ℕ) (pool pool' all : Shared) (x : List ℤ) → i < length xs → x ≡ get_or xs i [] → pool' ≡ after_puts pool i x
    → filled_from i (drop i xs) pool ≡ all → filled_from (i + 1) (drop (i + 1) xs) pool' ≡ all
cells_more xs i pool pool' all x lt same put before =
    ap (λ (p : Shared). filled_from (i + 1) (drop (i + 1) xs) p) (put ∙ ap (after_puts pool i) same)
    ∙ ap (λ (n : ℕ). filled_from n (drop (i + 1) xs) (after_puts pool i (get_or xs i []))) (let one : i + 1 ≡ suc i = omega arith in one)
    ∙ ap (λ (ys : List (List ℤ)). filled_from i ys pool) (sym (drop_more xs i [] lt))
    ∙ before

-- and at the end
pub cells_all : (xs : List (List ℤ)) (n : ℕ) (pool all : Shared) → length xs ≤ n → filled_from n (drop n xs) pool ≡ all → pool ≡ all
cells_all xs n pool all le before = ap (λ (ys : List (List ℤ)). filled_from n ys pool) (sym (drop_all n xs le)) ∙ before
