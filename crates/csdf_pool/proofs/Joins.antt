-- A segment joined to the end of a chain by setting the link of the chain's last cell.
use Rattle.std.proofs.Common.{◌≡◌, ◌≢◌, ℕ, suc, ◌+◌, ◌-◌, ◌<◌, ◌≤◌, List, [], ◌∷◌, ◌++◌, length, get_or, take, drop, set, ap, ap₂, arith, ◌∙◌, sym, subst}
use Rattle.std.proofs.Common.{All, length-append, length-set, get_or-set_other, get_or-set_same, take-append-drop}
use Rattle.std.proofs.lemmas.List.Elements.{All-append}
use Rattle.std.proofs.lemmas.List.{get_or-append-add, get_or-take, take_more}
use Rattle.csdf_pool.specs.declared.ends.Ends.{Ends}
use Rattle.csdf_pool.specs.Cells.{times, EachOnce}
use Rattle.csdf_pool.specs.Chains.{linked_from, cells_of, IsChain}
use Rattle.csdf_pool.proofs.Times.{times-append, times_at, times-cons_same}
use Rattle.csdf_pool.proofs.Totals.{length-EachOnce}
use Rattle.csdf_pool.proofs.Walks.{take-linked_from, drop-linked_from, linked_from-same_front}
use Rattle.csdf_pool.proofs.ChainLemmas.{length-cells_of, cell_in_table, cells_of-same}

module _ (links : List ℕ) (chain segment : Ends) (chain_is : IsChain links chain) (segment_is : IsChain links segment)
    (once : EachOnce (cells_of links segment ++ cells_of links chain)) where
  apart : (cell : ℕ) → times cell (cells_of links segment) + times cell (cells_of links chain) ≤ 1
  apart cell = omega (arith, once cell, times-append cell (cells_of links segment) (cells_of links chain))

  -- both together are no longer than the table
  pub length-joined : chain.length + segment.length ≤ length links
  length-joined =
      let P : ℕ → Type 0 = λ c. c < length links in
      omega (
        arith,
        length-EachOnce (length links) (cells_of links segment ++ cells_of links chain) once
            (All-append P (cells_of links segment) (cells_of links chain) segment_is.within chain_is.within),
        length-append (cells_of links segment) (cells_of links chain),
        length-cells_of links segment,
        length-cells_of links chain,
      )

  module _ (some : 0 < chain.length) where
    pub end_in_table : chain.end < length links
    end_in_table = subst (λ c. c < length links) (chain_is.ended some) (cell_in_table links chain (chain.length - 1) chain_is (omega arith))

    end_stands : 0 < times chain.end (cells_of links chain)
    end_stands = subst (λ c. 0 < times c (cells_of links chain)) (chain_is.ended some)
        (times_at (cells_of links chain) (chain.length - 1) (omega (arith, length-cells_of links chain)))

    -- the last cell is not among those before it
    end_only_last : (m : ℕ) → chain.length ≡ suc m → times chain.end (linked_from links chain.front m) ≡ 0
    end_only_last m size =
        let front : take m (cells_of links chain) ≡ linked_from links chain.front m = take-linked_from links chain.front m chain.length (omega arith) in
        let all : take (m + 1) (cells_of links chain) ≡ cells_of links chain =
        ap (λ n. take n (cells_of links chain)) (omega arith) ∙ take-linked_from links chain.front chain.length chain.length (omega arith) in
        let cut : take (m + 1) (cells_of links chain) ≡ take m (cells_of links chain) ++ get_or (cells_of links chain) m 0 ∷ [] =
        take_more (cells_of links chain) m 0 (omega (arith, length-cells_of links chain)) in
        let last : get_or (cells_of links chain) m 0 ≡ chain.end =
        ap (λ i. get_or (cells_of links chain) i 0) (omega arith) ∙ chain_is.ended some in
        let whole : cells_of links chain ≡ linked_from links chain.front m ++ chain.end ∷ [] =
        sym all ∙ cut ∙ ap₂ (λ xs c. xs ++ c ∷ []) front last in
        omega (
          arith,
          apart chain.end,
          ap (times chain.end) whole,
          times-append chain.end (linked_from links chain.front m) (chain.end ∷ []),
          times-cons_same chain.end [],
        )

    table : List ℕ
    table = set links chain.end segment.front

    set_other : (cell : ℕ) → cell ≢ chain.end → get_or table cell 0 ≡ get_or links cell 0
    unfolding table
    set_other cell other = get_or-set_other links chain.end cell segment.front 0 other

    set_same : get_or table chain.end 0 ≡ segment.front
    unfolding table
    set_same = get_or-set_same links chain.end segment.front 0 end_in_table

    -- the chain's own cells are as they were
    chain_cells : (m : ℕ) → chain.length ≡ suc m → linked_from table chain.front (suc m) ≡ linked_from links chain.front (suc m)
    chain_cells m size = linked_from-same_front links table chain.front m (λ c stands.
        set_other c (λ same. omega (arith, stands, end_only_last m size, ap (λ x. times x (linked_from links chain.front m)) same)))

    segment_cells : cells_of table segment ≡ cells_of links segment
    segment_cells = cells_of-same links table segment (λ c stands.
        set_other c (λ same. omega (arith, stands, apart chain.end, end_stands, ap (λ x. times x (cells_of links segment)) same)))

    joined_cells : (m : ℕ) → chain.length ≡ suc m →
        linked_from table chain.front (suc m + segment.length) ≡ linked_from links chain.front (suc m) ++ cells_of links segment
    joined_cells m size =
        let n = suc m + segment.length in
        let whole = linked_from table chain.front n in
        let front : take (suc m) whole ≡ linked_from links chain.front (suc m) =
        take-linked_from table chain.front (suc m) n (omega arith) ∙ chain_cells m size in
        let last : get_or whole m 0 ≡ chain.end =
        sym (get_or-take (suc m) whole m 0 (omega arith))
        ∙ ap (λ xs. get_or xs m 0) front
        ∙ ap₂ (λ k i. get_or (linked_from links chain.front k) i 0) (sym size) (omega arith)
        ∙ chain_is.ended some in
        let next : get_or table (get_or whole m 0) 0 ≡ segment.front = ap (λ c. get_or table c 0) last ∙ set_same in
        let back : drop (suc m) whole ≡ cells_of links segment =
        drop-linked_from table chain.front m n (omega arith)
        ∙ ap₂ (linked_from table) next (omega arith)
        ∙ segment_cells in
        sym (take-append-drop (suc m) whole) ∙ ap₂ ◌++◌ front back

    pub cells_of-joined : linked_from (set links chain.end segment.front) chain.front (chain.length + segment.length)
        ≡ cells_of links chain ++ cells_of links segment
    unfolding table
    cells_of-joined =
        let size : chain.length ≡ suc (chain.length - 1) = omega arith in
        ap (λ k. linked_from table chain.front (k + segment.length)) size
        ∙ joined_cells (chain.length - 1) size
        ∙ ap (λ k. linked_from links chain.front k ++ cells_of links segment) (sym size)

    pub IsChain-joined : 0 < segment.length
        → IsChain (set links chain.end segment.front) (record { front = chain.front; end = segment.end; length = chain.length + segment.length })
    IsChain-joined segment_some = record {
      within =
          let P : ℕ → List ℕ → Type 0 = λ n xs. All (λ c. c < n) xs in
          subst (λ n. P n (linked_from (set links chain.end segment.front) chain.front (chain.length + segment.length)))
          (sym (length-set links chain.end segment.front))
          (subst (P (length links)) (sym cells_of-joined)
          (All-append (λ c. c < length links) (cells_of links chain) (cells_of links segment) chain_is.within segment_is.within));
      ended = λ _.
          ap (λ xs. get_or xs (chain.length + segment.length - 1) 0) cells_of-joined
          ∙ ap (λ i. get_or (cells_of links chain ++ cells_of links segment) i 0) (omega (arith, length-cells_of links chain))
          ∙ get_or-append-add (cells_of links chain) (cells_of links segment) (segment.length - 1) 0
          ∙ segment_is.ended segment_some;
    }

    -- only the link of the last cell changes
    pub links-joined : (cell : ℕ) → times cell (cells_of links chain) ≡ 0 → get_or (set links chain.end segment.front) cell 0 ≡ get_or links cell 0
    unfolding table
    links-joined cell none = set_other cell (λ same. omega (arith, none, end_stands, ap (λ x. times x (cells_of links chain)) same))
