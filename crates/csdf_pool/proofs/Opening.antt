-- A new pool: every cell free in ascending order, every chain empty.
use Rattle.std.proofs.Common.{◌≡◌, ℕ, zero, suc, ◌+◌, ◌-◌, ◌<◌, ◌≤◌, ℤ, List, [], ◌∷◌, ◌++◌, length, get_or, map, replicate, nat_lt, if◌then◌else◌, ap, ap₂}
use Rattle.std.proofs.Common.{refl, arith, ◌∙◌, sym, subst, inl, inr}
use Rattle.std.proofs.lemmas.List.{length-replicate, get_or-replicate}
use Rattle.std.proofs.lemmas.List.FromFn.{length-range_with_len, get_or-range_with_len}
use Rattle.std.proofs.lemmas.Bool.{cases_lt}
use Rattle.std.proofs.lemmas.Bool.Decides.{nat_tests}
use Rattle.std.specs.List.{concat, range_with_len}
use Rattle.csdf_pool.specs.declared.ends.Ends.{Ends}
use Rattle.csdf_pool.specs.Cells.{times}
use Rattle.csdf_pool.specs.Chains.{linked_from, IsChain}
use Rattle.csdf_pool.specs.Inside.{no_cells, held_in, IsSound}
use Rattle.csdf_pool.specs.Pool.{held_cells}
use Rattle.csdf_pool.proofs.Times.{times-cons_same, times-cons_other}

-- one more number
pub range_more : (first n : ℕ) → range_with_len first n ++ (first + n) ∷ [] ≡ range_with_len first (suc n)
range_more first zero = ap (λ k. k ∷ []) (omega arith)
range_more first (suc n) =
    ap (λ xs. first ∷ xs) (ap (λ k. range_with_len (first + 1) n ++ k ∷ []) (omega arith) ∙ range_more (first + 1) n)

-- links that each name the next cell
pub linked_range : (size cell n : ℕ) → cell + n ≤ size → linked_from (range_with_len 1 size) cell n ≡ range_with_len cell n
linked_range size cell zero h = refl
linked_range size cell (suc n) h =
    let next : get_or (range_with_len 1 size) cell 0 ≡ cell + 1 = get_or-range_with_len 1 size cell 0 (omega (arith, h)) ∙ omega arith in
    ap (λ cells. cell ∷ cells)
    (ap (λ c. linked_from (range_with_len 1 size) c n) next ∙ linked_range size (cell + 1) n (omega (arith, h)))

times-range_before : (cell first n : ℕ) → cell < first → times cell (range_with_len first n) ≡ 0
times-range_before cell first zero h = refl
times-range_before cell first (suc n) h =
    times-cons_other cell first (range_with_len (first + 1) n) (λ e. omega (arith, h, e))
    ∙ times-range_before cell (first + 1) n (omega (arith, h))

times-range_behind : (cell first n : ℕ) → first + n ≤ cell → times cell (range_with_len first n) ≡ 0
times-range_behind cell first zero h = refl
times-range_behind cell first (suc n) h =
    times-cons_other cell first (range_with_len (first + 1) n) (λ e. omega (arith, h, e))
    ∙ times-range_behind cell (first + 1) n (omega (arith, h))

pub times-range_in : (cell first n : ℕ) → first ≤ cell → cell < first + n → times cell (range_with_len first n) ≡ 1
times-range_in cell first zero h k = absurd (omega (arith, h, k))
times-range_in cell first (suc n) h k = elim (cases_lt first cell) [
  | inl before ↦
      times-cons_other cell first (range_with_len (first + 1) n) (λ e. omega (arith, before, e))
      ∙ times-range_in cell (first + 1) n (omega (arith, before)) (omega (arith, k))
  | inr not_before ↦
      let same : first ≡ cell = omega (arith, h, not_before) in
      ap (λ c. times cell (c ∷ range_with_len (first + 1) n)) same
      ∙ times-cons_same cell (range_with_len (first + 1) n)
      ∙ ap suc (times-range_before cell (first + 1) n (omega (arith, same)))
]

below_is : (cell size : ℕ) → cell < size → ◌≡◌ {A = ℕ} (if nat_lt cell size then 1 else 0) 1
below_is cell size h = grind (arith, nat_tests)

above_is : (cell size : ℕ) → size ≤ cell → ◌≡◌ {A = ℕ} (if nat_lt cell size then 1 else 0) 0
above_is cell size h = grind (arith, nat_tests)

times-range : (cell size : ℕ) → times cell (range_with_len 0 size) ≡ (if nat_lt cell size then 1 else 0)
times-range cell size = elim (cases_lt cell size) [
  | inl below ↦ times-range_in cell 0 size (omega arith) (omega (arith, below)) ∙ sym (below_is cell size below)
  | inr above ↦ times-range_behind cell 0 size (omega (arith, above)) ∙ sym (above_is cell size above)
]

-- empty chains show empty lists
pub held_in-empty : (links : List ℕ) (tokens : List ℤ) (n : ℕ) → map (held_in links tokens) (replicate n no_cells) ≡ replicate n []
held_in-empty links tokens zero = refl
held_in-empty links tokens (suc n) = ap (λ chains. [] ∷ chains) (held_in-empty links tokens n)

no_held : (n : ℕ) → concat (map held_cells (replicate n [])) ≡ []
no_held zero = refl
no_held (suc n) = no_held n

module _ (size count : ℕ) (tokens : List ℤ) (size_fits : size ≤ 8388480) (same_size : length tokens ≡ size) where
  free : Ends
  free = record { front = 0; end = size - 1; length = size }

  pub IsSound-opening : IsSound (range_with_len 1 size) tokens (replicate count no_cells) (record { front = 0; end = size - 1; length = size })
  IsSound-opening =
      let links = range_with_len 1 size in
      let length-links : length links ≡ size = length-range_with_len 1 size in
      let cells : linked_from links 0 size ≡ range_with_len 0 size = linked_range size 0 size (omega arith) in
      record {
        same_size = same_size ∙ sym length-links;
        size_fits = omega (arith, length-links, size_fits);
        each_chain = λ i below.
            subst (IsChain links) (sym (get_or-replicate count i no_cells no_cells (omega (arith, below, length-replicate count no_cells))))
            (record { within = λ k d h. absurd (omega (arith, h)); ended = λ h. absurd (omega (arith, h)) });
        free_chain = record {
          within = λ k d below.
              let in_range : k < size = omega (arith, below, ap length cells, length-range_with_len 0 size) in
              subst (λ c. c < length links) (sym (ap (λ xs. get_or xs k d) cells ∙ get_or-range_with_len 0 size k d in_range))
              (omega (arith, in_range, length-links));
          ended = λ some. ap (λ xs. get_or xs (size - 1) 0) cells ∙ get_or-range_with_len 0 size (size - 1) 0 (omega (arith, some)) ∙ omega arith;
        };
        partition = λ cell.
            ap (λ xs. times cell (concat (map held_cells xs) ++ linked_from links 0 size)) (held_in-empty links tokens count)
            ∙ ap₂ (λ xs ys. times cell (xs ++ ys)) (no_held count) cells
            ∙ times-range cell size
            ∙ ap (λ k. if nat_lt cell k then 1 else 0) (sym length-links);
      }
