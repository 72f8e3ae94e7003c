-- Cells that stand in a row, and the piece of the table that their tokens are.
use Rattle.std.proofs.Common.{◌≡◌, ℕ, zero, suc, ◌+◌, ◌-◌, ◌<◌, ◌≤◌, ℤ, pos, List, ◌∷◌, ◌++◌, length, get_or, take, drop, map, ap, refl, arith, ◌∙◌, sym, subst}
use Rattle.std.proofs.Common.{add-one, All, inl, inr, get_or-drop, length-append}
use Rattle.std.proofs.Math.Seq.{drop-cons}
use Rattle.std.proofs.lemmas.Bool.{cases_lt}
use Rattle.std.proofs.lemmas.List.{take_at, drop_at, length-take-le, get_or-take, get_or_append_left, get_or-append_right}
use Rattle.std.proofs.lemmas.List.FromFn.{get_or-range_with_len}
use Rattle.std.specs.List.{range_with_len}
use Rattle.csdf_pool.specs.Cells.{times}
use Rattle.csdf_pool.specs.Chains.{linked_from}
use Rattle.csdf_pool.specs.Inside.{token_at}
use Rattle.csdf_pool.specs.Rows.{IsRow}
use Rattle.csdf_pool.proofs.Opening.{times-range_in}
use Rattle.csdf_pool.proofs.Walks.{length-linked_from}

-- a row of as many cells
pub row_as : (links : List ℕ) (at n m : ℕ) → n ≡ m → IsRow links at m → IsRow links at n
row_as links at n m same row i below = row i (omega (arith, same, below))

-- two rows, the second one behind the first
pub row_more : (links : List ℕ) (at n k : ℕ) → IsRow links at n → IsRow links (at + n) k → IsRow links at (n + k)
row_more links at n k front back i below =
    elim (cases_lt i n) [
      | inl before ↦ front i before
      | inr behind ↦
          ap (λ j. get_or links j 0) (omega (arith, behind)) ∙ back (i - n) (omega (arith, below, behind)) ∙ omega (arith, behind)
    ]

-- a walk along the cells of a row goes along the table
along : (links : List ℕ) (at n : ℕ) → IsRow links at n → linked_from links at n ≡ range_with_len at n
along links at zero leads = refl
along links at (suc n) leads =
    let next : get_or links at 0 ≡ at + 1 = ap (λ k. get_or links k 0) (omega arith) ∙ leads 0 (omega arith) ∙ omega arith in
    let behind : IsRow links (at + 1) n = λ i below.
    ap (λ k. get_or links k 0) (omega arith) ∙ leads (suc i) (omega (arith, below)) ∙ omega arith in
    ap (λ cells. at ∷ cells) (ap (λ c. linked_from links c n) next ∙ along links (at + 1) n behind)

-- the last of a row
pub row_last : (links : List ℕ) (at n : ℕ) → 0 < n → IsRow links at n → at + (n - 1) ≡ get_or (linked_from links at n) (n - 1) 0
row_last links at n some row =
    sym (ap (λ cells. get_or cells (n - 1) 0) (along links at n row) ∙ get_or-range_with_len at n (n - 1) 0 (omega arith))

-- a row of cells below a size ends below it
pub row_within : (links : List ℕ) (at n size : ℕ) → 0 < n → IsRow links at n → All (λ cell. cell < size) (linked_from links at n) → at + n ≤ size
row_within links at n size some row all =
    let last : at + (n - 1) < size = subst (λ cell. cell < size) (sym (row_last links at n some row))
    (all (n - 1) 0 (omega (arith, length-linked_from links at n))) in
    omega arith

-- the tokens of cells that lie one behind the other
tokens_along : (table : List ℤ) (at n : ℕ) → at + n ≤ length table → map (token_at table) (range_with_len at n) ≡ take n (drop at table)
tokens_along table at zero h = refl
tokens_along table at (suc n) h =
    ap (λ tokens. token_at table at ∷ tokens)
    (tokens_along table (at + 1) n (omega (arith, h)) ∙ ap (λ k. take n (drop k table)) (add-one at))
    ∙ sym (ap (take (suc n)) (drop-cons table at (pos 0) (omega (arith, h))))

pub row_tokens : (links : List ℕ) (table : List ℤ) (at n : ℕ) → IsRow links at n → at + n ≤ length table →
    map (token_at table) (linked_from links at n) ≡ take n (drop at table)
row_tokens links table at n row within = ap (map (token_at table)) (along links at n row) ∙ tokens_along table at n within

module _ (links : List ℕ) (old : List ℤ) (at : ℕ) (tokens : List ℤ) (row : IsRow links at (length tokens)) (within : at + length tokens ≤ length old) where
  front : length (take at old) ≡ at
  front = length-take-le at old (omega arith)

  size : at + length tokens ≤ length (take at old ++ (tokens ++ drop (at + length tokens) old))
  size =
      omega (
        arith,
        front,
        length-append (take at old) (tokens ++ drop (at + length tokens) old),
        length-append tokens (drop (at + length tokens) old),
      )

  -- the tokens put into a row's piece of the table are those of its cells
  pub row_filled : map (token_at (take at old ++ (tokens ++ drop (at + length tokens) old))) (linked_from links at (length tokens)) ≡ tokens
  row_filled =
      row_tokens links (take at old ++ (tokens ++ drop (at + length tokens) old)) at (length tokens) row size
      ∙ ap (take (length tokens)) (drop_at (take at old) (tokens ++ drop (at + length tokens) old) at front)
      ∙ take_at tokens (drop (at + length tokens) old) (length tokens) refl

  -- a cell that stands neither in the row nor before it stands behind it
  after_row : (cell : ℕ) → times cell (linked_from links at (length tokens)) ≡ 0 → at ≤ cell → at + length tokens ≤ cell
  after_row cell none h = elim (cases_lt cell (at + length tokens)) [
    | inl before ↦ absurd (omega (arith, none, ap (times cell) (along links at (length tokens) row), times-range_in cell at (length tokens) h before))
    | inr not_before ↦ omega (arith, not_before)
  ]

  -- and no other cell has another token
  pub row_others : (cell : ℕ) → times cell (linked_from links at (length tokens)) ≡ 0 →
      token_at (take at old ++ (tokens ++ drop (at + length tokens) old)) cell ≡ token_at old cell
  row_others cell none = elim (cases_lt cell at) [
    | inl before ↦
        get_or_append_left (take at old) (tokens ++ drop (at + length tokens) old) (pos 0) cell (omega (arith, before, front))
        ∙ get_or-take at old cell (pos 0) before
    | inr not_before ↦
        let behind : at + length tokens ≤ cell = after_row cell none (omega (arith, not_before)) in
        get_or-append_right (take at old) (tokens ++ drop (at + length tokens) old) at cell (pos 0) front (omega (arith, not_before))
        ∙ get_or-append_right tokens (drop (at + length tokens) old) (length tokens) (cell - at) (pos 0) refl (omega (arith, behind))
        ∙ get_or-drop (at + length tokens) old (cell - at - length tokens) (pos 0)
        ∙ ap (λ k. get_or old k (pos 0)) (omega (arith, behind))
  ]
