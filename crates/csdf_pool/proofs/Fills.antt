-- Going along linked cells, one at a time, and reading or writing their tokens.
use Rattle.std.proofs.Common.{◌≡◌, ℕ, zero, suc, ◌+◌, ◌-◌, ◌<◌, ℤ, pos, List, [], ◌∷◌, ◌++◌, length, get_or, take, drop, map, set, ap, ap₂, refl, arith, ◌∙◌, sym}
use Rattle.std.proofs.Common.{subst, get_or-drop, get_or-set_other, get_or-set_same, drop-drop, take-append-drop, All}
use Rattle.std.proofs.lemmas.List.{take_more, map-append}
use Rattle.csdf_pool.specs.Cells.{times, EachOnce}
use Rattle.csdf_pool.specs.Chains.{linked_from}
use Rattle.csdf_pool.specs.Inside.{token_at}
use Rattle.csdf_pool.proofs.Times.{times-append, times-cons_same, times-cons-le}
use Rattle.csdf_pool.proofs.Walks.{length-linked_from}

-- two functions that agree on the cells give the same list
pub map-same : {A : Type 0} (f g : ℕ → A) (cells : List ℕ) →
    ((cell : ℕ) → 0 < times cell cells → f cell ≡ g cell) → map f cells ≡ map g cells
map-same f g [] same = refl
map-same f g (cell ∷ cells) same =
    ap₂ ◌∷◌ (same cell (omega (arith, times-cons_same cell cells)))
    (map-same f g cells (λ c stands. same c (omega (arith, stands, times-cons-le c cell cells))))

-- the first of some cells lies where all do
pub first_in : (links : List ℕ) (first n : ℕ) → 0 < n → (size : ℕ) → All (λ cell. cell < size) (linked_from links first n) → first < size
first_in links first zero some size all = absurd (omega arith)
first_in links first (suc n) some size all = all 0 0 (omega arith)

module _ (links : List ℕ) (first n i next : ℕ) (below : i < n) (rest : linked_from links next (n - i) ≡ drop i (linked_from links first n)) where
  cells : List ℕ
  cells = linked_from links first n

  -- the cell that is next is the one at the place reached
  pub next_is : next ≡ get_or (linked_from links first n) i 0
  next_is =
      let size : suc (n - (i + 1)) ≡ n - i = omega arith in
      ap (λ k. get_or (linked_from links next k) 0 0) size
      ∙ ap (λ xs. get_or xs 0 0) rest
      ∙ get_or-drop i (linked_from links first n) 0 0
      ∙ ap (λ k. get_or (linked_from links first n) k 0) (omega arith)

  pub next_in : (size : ℕ) → All (λ cell. cell < size) (linked_from links first n) → next < size
  next_in size all = subst (λ cell. cell < size) (sym next_is) (all i 0 (omega (arith, length-linked_from links first n)))

  -- and its link is the next one after it
  pub rest_after : linked_from links (get_or links next 0) (n - (i + 1)) ≡ drop (i + 1) (linked_from links first n)
  rest_after =
      let size : suc (n - (i + 1)) ≡ n - i = omega arith in
      ap (λ k. drop 1 (linked_from links next k)) size
      ∙ ap (drop 1) rest
      ∙ drop-drop 1 i (linked_from links first n)
      ∙ ap (λ k. drop k (linked_from links first n)) (omega arith)

  -- one more cell
  pub take_after : take (i + 1) (linked_from links first n) ≡ take i (linked_from links first n) ++ next ∷ []
  take_after =
      take_more (linked_from links first n) i 0 (omega (arith, length-linked_from links first n))
      ∙ ap (λ c. take i (linked_from links first n) ++ c ∷ []) (sym next_is)

  module _ (once : EachOnce (linked_from links first n)) where
    -- the next cell is not among those before it
    next_apart : times next (take i (linked_from links first n)) ≡ 0
    next_apart =
        omega (
          arith,
          once next,
          ap (times next) (take-append-drop (i + 1) (linked_from links first n)),
          times-append next (take (i + 1) (linked_from links first n)) (drop (i + 1) (linked_from links first n)),
          ap (times next) take_after,
          times-append next (take i (linked_from links first n)) (next ∷ []),
          times-cons_same next [],
        )

    pub written_more : (table : List ℤ) (token : ℤ) (done : List ℤ) → next < length table →
        map (token_at table) (take i (linked_from links first n)) ≡ done →
        map (token_at (set table next token)) (take (i + 1) (linked_from links first n)) ≡ done ++ token ∷ []
    written_more table token done fits was =
        ap (map (token_at (set table next token))) take_after
        ∙ map-append (token_at (set table next token)) (take i (linked_from links first n)) (next ∷ [])
        ∙ ap₂ (λ xs t. xs ++ t ∷ [])
        (map-same (token_at (set table next token)) (token_at table) (take i (linked_from links first n))
        (λ cell stands. get_or-set_other table next cell token (pos 0)
        (λ same. omega (arith, stands, next_apart, ap (λ c. times c (take i (linked_from links first n))) same)))
        ∙ was)
        (get_or-set_same table next token (pos 0) fits)

  pub others_more : (table : List ℤ) (token : ℤ) (cell : ℕ) → times cell (take (i + 1) (linked_from links first n)) ≡ 0 →
      token_at (set table next token) cell ≡ token_at table cell
  others_more table token cell none =
      get_or-set_other table next cell token (pos 0)
      (λ same. omega (
        arith,
        none,
        ap (times cell) take_after,
        times-append cell (take i (linked_from links first n)) (next ∷ []),
        times-cons_same next [],
        ap (λ c. times c (next ∷ [])) same,
      ))

  pub none_before : (cell : ℕ) → times cell (take (i + 1) (linked_from links first n)) ≡ 0 → times cell (take i (linked_from links first n)) ≡ 0
  none_before cell none =
      omega (arith, none, ap (times cell) take_after, times-append cell (take i (linked_from links first n)) (next ∷ []))

  pub read_more : (table : List ℤ)
      → map (token_at table) (take (i + 1) (linked_from links first n)) ≡ map (token_at table) (take i (linked_from links first n)) ++ token_at table next ∷ []
  read_more table = ap (map (token_at table)) take_after ∙ map-append (token_at table) (take i (linked_from links first n)) (next ∷ [])
