-- Cells that pass between a chain and the free list: the other chains stay, and the cells stay
-- shared out.
use Rattle.std.proofs.Common.{◌≡◌, ◌≢◌, ℕ, ◌+◌, ◌<◌, ◌≤◌, ℤ, List, [], ◌∷◌, ◌++◌, length, get_or, map, set, nat_lt, if◌then◌else◌, ap, ap₂, refl, arith, ◌∙◌}
use Rattle.std.proofs.Common.{sym, subst, inl, inr, length-set, get_or-set_other, get_or-set_same}
use Rattle.std.proofs.Math.ListN.{get_or-map}
use Rattle.std.proofs.lemmas.List.{length-map}
use Rattle.std.proofs.lemmas.Bool.{cases_eq}
use Rattle.std.proofs.lemmas.Bool.Decides.{nat_tests}
use Rattle.std.specs.List.{concat}
use Rattle.csdf_pool.specs.declared.ends.Ends.{Ends}
use Rattle.csdf_pool.specs.Cells.{times}
use Rattle.csdf_pool.specs.Chains.{cells_of, IsChain}
use Rattle.csdf_pool.specs.Inside.{no_cells, token_at, held_in, shared_of, IsSound}
use Rattle.csdf_pool.specs.Pool.{held_cells, chain_of, all_cells}
use Rattle.csdf_pool.proofs.Times.{times-append}
use Rattle.csdf_pool.proofs.ChainLemmas.{cells_of-same, IsChain-same}
use Rattle.csdf_pool.proofs.Fills.{map-same}
use Rattle.csdf_pool.proofs.Lists.{map-set_but, times-concat-set, times-concat-two, times-concat-le, firsts}

-- the cells of a chain that the tables show
pub held_cells-held_in : (links : List ℕ) (tokens : List ℤ) (ends : Ends) → held_cells (held_in links tokens ends) ≡ cells_of links ends
held_cells-held_in links tokens ends = firsts (token_at tokens) (cells_of links ends)

pub chain_of-shared_of : (links : List ℕ) (tokens : List ℤ) (chains : List Ends) (free : Ends) (chain : ℕ) →
    chain_of (shared_of links tokens chains free) chain ≡ held_in links tokens (get_or chains chain no_cells)
chain_of-shared_of links tokens chains free chain = get_or-map (held_in links tokens) chains chain no_cells

-- the cells of all chains, each list by its ends
pub lists : List ℕ → List Ends → List (List ℕ)
lists links chains = map (cells_of links) chains

held_lists : (links : List ℕ) (tokens : List ℤ) (chains : List Ends) → map held_cells (map (held_in links tokens) chains) ≡ lists links chains
unfolding lists
held_lists links tokens [] = refl
held_lists links tokens (ends ∷ chains) = ap₂ ◌∷◌ (held_cells-held_in links tokens ends) (held_lists links tokens chains)

get_or-lists : (links : List ℕ) (chains : List Ends) (i : ℕ) → get_or (lists links chains) i [] ≡ cells_of links (get_or chains i no_cells)
unfolding lists
get_or-lists links chains i = get_or-map (cells_of links) chains i no_cells

length-lists : (links : List ℕ) (chains : List Ends) → length (lists links chains) ≡ length chains
unfolding lists
length-lists links chains = length-map chains (cells_of links)

times-all_cells : (cell : ℕ) (links : List ℕ) (tokens : List ℤ) (chains : List Ends) (free : Ends) →
    times cell (all_cells (shared_of links tokens chains free)) ≡ times cell (concat (lists links chains)) + times cell (cells_of links free)
times-all_cells cell links tokens chains free =
    ap (λ xs. times cell (concat xs ++ cells_of links free)) (held_lists links tokens chains)
    ∙ times-append cell (concat (lists links chains)) (cells_of links free)

one_at_most : (cell size : ℕ) → (if nat_lt cell size then 1 else 0) ≤ 1
one_at_most cell size = grind (arith, nat_tests)

module _ (links : List ℕ) (tokens : List ℤ) (chains : List Ends) (free : Ends) (sound : IsSound links tokens chains free) where
  -- no cell stands twice in all
  pub once : (cell : ℕ) → times cell (concat (lists links chains)) + times cell (cells_of links free) ≤ 1
  once cell = omega (arith, times-all_cells cell links tokens chains free, sound.partition cell, one_at_most cell (length links))

  module _ (chain : ℕ) (known : chain < length chains) where
    ends : Ends
    ends = get_or chains chain no_cells

    -- a chain and the free list have no common cell, nor one twice
    pub chain_apart : (cell : ℕ) → times cell (cells_of links (get_or chains chain no_cells)) + times cell (cells_of links free) ≤ 1
    chain_apart cell =
        omega (
          arith,
          once cell,
          times-concat-le cell (lists links chains) chain (omega (arith, known, length-lists links chains)),
          ap (times cell) (get_or-lists links chains chain),
        )

    -- nor have another chain and these two
    others_apart : (cell i : ℕ) → i < length chains → i ≢ chain →
        times cell (cells_of links (get_or chains i no_cells)) +
        (times cell (cells_of links (get_or chains chain no_cells)) + times cell (cells_of links free)) ≤ 1
    others_apart cell i below other =
        omega (
          arith,
          once cell,
          times-concat-two cell (lists links chains) i chain (omega (arith, below, length-lists links chains))
              (omega (arith, known, length-lists links chains)) other,
          ap (times cell) (get_or-lists links chains i),
          ap (times cell) (get_or-lists links chains chain),
        )

    module _
        (new_links : List ℕ) (new_tokens : List ℤ) (new_ends new_free : Ends)
        (same_links : length new_links ≡ length links)
        (same_tokens : length new_tokens ≡ length tokens)
        (ends_chain : IsChain new_links new_ends)
        (free_chain : IsChain new_links new_free)
        (other_links : (cell : ℕ) → times cell (cells_of links (get_or chains chain no_cells)) + times cell (cells_of links free) ≡ 0
        → get_or new_links cell 0 ≡ get_or links cell 0)
        (other_tokens : (cell : ℕ) → times cell (cells_of links (get_or chains chain no_cells)) + times cell (cells_of links free) ≡ 0
        → token_at new_tokens cell ≡ token_at tokens cell)
        (same_cells : (cell : ℕ) → times cell (cells_of new_links new_ends) + times cell (cells_of new_links new_free)
        ≡ times cell (cells_of links (get_or chains chain no_cells)) + times cell (cells_of links free))
      where
        -- another chain's cells are as they were
        other_cells : (i : ℕ) → i < length chains → i ≢ chain → cells_of new_links (get_or chains i no_cells) ≡ cells_of links (get_or chains i no_cells)
        other_cells i below other =
            cells_of-same links new_links (get_or chains i no_cells) (λ cell stands. other_links cell (omega (arith, stands, others_apart cell i below other)))

        -- and so are its tokens
        other_held : (i : ℕ) → i < length chains → i ≢ chain
            → held_in new_links new_tokens (get_or chains i no_cells) ≡ held_in links tokens (get_or chains i no_cells)
        other_held i below other =
            ap (map (λ cell. (cell, token_at new_tokens cell))) (other_cells i below other)
            ∙ map-same (λ cell. (cell, token_at new_tokens cell)) (λ cell. (cell, token_at tokens cell)) (cells_of links (get_or chains i no_cells))
            (λ cell stands. ap (λ t. (cell, t)) (other_tokens cell (omega (arith, stands, others_apart cell i below other))))

        -- the chains are the old ones, with the one that changed in its place
        pub chains_after : map (held_in new_links new_tokens) (set chains chain new_ends)
            ≡ set (map (held_in links tokens) chains) chain (held_in new_links new_tokens new_ends)
        chains_after = map-set_but (held_in links tokens) (held_in new_links new_tokens) chains chain new_ends no_cells other_held

        lists_after : lists new_links (set chains chain new_ends) ≡ set (lists links chains) chain (cells_of new_links new_ends)
        unfolding lists
        lists_after = map-set_but (cells_of links) (cells_of new_links) chains chain new_ends no_cells other_cells

        partition_after : (cell : ℕ)
            → times cell (all_cells (shared_of new_links new_tokens (set chains chain new_ends) new_free)) ≡ (if nat_lt cell (length new_links) then 1 else 0)
        partition_after cell =
            let total : times cell (all_cells (shared_of new_links new_tokens (set chains chain new_ends) new_free))
            ≡ times cell (all_cells (shared_of links tokens chains free)) =
            omega (
              arith,
              times-all_cells cell new_links new_tokens (set chains chain new_ends) new_free,
              times-all_cells cell links tokens chains free,
              ap (λ xs. times cell (concat xs)) lists_after,
              times-concat-set cell (lists links chains) chain (cells_of new_links new_ends) (omega (arith, known, length-lists links chains)),
              ap (times cell) (get_or-lists links chains chain),
              same_cells cell,
            ) in
            total ∙ sound.partition cell ∙ ap (λ size. if nat_lt cell size then 1 else 0) (sym same_links)

        chain_after : (i : ℕ) → i < length (set chains chain new_ends) → IsChain new_links (get_or (set chains chain new_ends) i no_cells)
        chain_after i below = elim (cases_eq i chain) [
          | inl same ↦ subst (λ k. IsChain new_links (get_or (set chains chain new_ends) k no_cells)) (sym same)
              (subst (IsChain new_links) (sym (get_or-set_same chains chain new_ends no_cells known)) ends_chain)
          | inr other ↦
              let in_chains : i < length chains = omega (arith, below, length-set chains chain new_ends) in
              subst (IsChain new_links) (sym (get_or-set_other chains chain i new_ends no_cells other))
              (IsChain-same links new_links (get_or chains i no_cells) (sound.each_chain i in_chains) same_links (other_cells i in_chains other))
        ]

        pub IsSound-after : IsSound new_links new_tokens (set chains chain new_ends) new_free
        IsSound-after = record {
          same_size = same_tokens ∙ sound.same_size ∙ sym same_links;
          size_fits = omega (arith, same_links, sound.size_fits);
          each_chain = chain_after;
          free_chain = free_chain;
          partition = partition_after;
        }
