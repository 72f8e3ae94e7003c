-- What a pool shows once cells went from the free list to a chain, or back.
use Rattle.std.proofs.Common.{◌≡◌, ℕ, ◌+◌, ◌<◌, ◌≤◌, ℤ, List, ◌++◌, length, get_or, take, drop, map, set, zip, ap, ap₂, refl, arith, ◌∙◌, sym, take-append-drop}
use Rattle.std.proofs.lemmas.List.{map-append, drop-map}
use Rattle.std.specs.List.{take-map}
use Rattle.csdf_pool.specs.declared.ends.Ends.{Ends}
use Rattle.csdf_pool.specs.Cells.{times, EachOnce}
use Rattle.csdf_pool.specs.Chains.{linked_from, cells_of, MovesCells}
use Rattle.csdf_pool.specs.Inside.{no_cells, token_at, held_in, shared_of, IsSound}
use Rattle.csdf_pool.specs.Pool.{Held, held_cells, held_tokens, chain_of}
use Rattle.csdf_pool.proofs.Times.{times-append}
use Rattle.csdf_pool.proofs.Totals.{length-EachOnce}
use Rattle.csdf_pool.proofs.Walks.{take-linked_from}
use Rattle.csdf_pool.proofs.ChainLemmas.{length-cells_of}
use Rattle.csdf_pool.proofs.Fills.{map-same}
use Rattle.csdf_pool.proofs.Lists.{seconds, pairs_are}
use Rattle.csdf_pool.proofs.Shares.{once, chain_of-shared_of, held_cells-held_in, chain_apart, chains_after, IsSound-after}

-- a chain's cells are its first ones and the others
split : (cell n : ℕ) (xs : List ℕ) → times cell xs ≡ times cell (take n xs) + times cell (drop n xs)
split cell n xs = sym (ap (times cell) (take-append-drop n xs)) ∙ times-append cell (take n xs) (drop n xs)

-- the free list has no more cells than the table
pub free_fits : (links : List ℕ) (tokens : List ℤ) (chains : List Ends) (free : Ends) → IsSound links tokens chains free → free.length ≤ length links
free_fits links tokens chains free sound =
    omega (
      arith,
      length-EachOnce (length links) (cells_of links free) (λ cell. omega (arith, once links tokens chains free sound cell)) sound.free_chain.within,
      length-cells_of links free,
    )

module _ (links : List ℕ) (tokens : List ℤ) (chains : List Ends) (free : Ends) (sound : IsSound links tokens chains free) (chain : ℕ)
    (known : chain < length chains) where
  -- a chain has no more cells than the table
  pub chain_fits : (get_or chains chain no_cells).length ≤ length links
  chain_fits =
      let ends = get_or chains chain no_cells in
      omega (
        arith,
        length-EachOnce (length links) (cells_of links ends) (λ cell. omega (arith, chain_apart links tokens chains free sound chain known cell))
            (sound.each_chain chain known).within,
        length-cells_of links ends,
      )

  pub free_apart : EachOnce (cells_of links free ++ cells_of links (get_or chains chain no_cells))
  free_apart cell = omega (
    arith,
    chain_apart links tokens chains free sound chain known cell,
    times-append cell (cells_of links free) (cells_of links (get_or chains chain no_cells)),
  )

  pub ends_apart : EachOnce (cells_of links (get_or chains chain no_cells) ++ cells_of links free)
  ends_apart cell = omega (
    arith,
    chain_apart links tokens chains free sound chain known cell,
    times-append cell (cells_of links (get_or chains chain no_cells)) (cells_of links free),
  )

  module _ (new_links : List ℕ) (new_ends new_free : Ends) (n : ℕ) (same_links : length new_links ≡ length links) where
    module _
        (new_tokens values : List ℤ)
        (size : n ≤ free.length)
        (same_tokens : length new_tokens ≡ length tokens)
        (moves : MovesCells links new_links free new_free (get_or chains chain no_cells) new_ends n)
        (filled : map (token_at new_tokens) (linked_from links free.front n) ≡ values)
        (kept : (cell : ℕ) → times cell (linked_from links free.front n) ≡ 0 → token_at new_tokens cell ≡ token_at tokens cell)
      where
        ends : Ends
        ends = get_or chains chain no_cells

        first : take n (cells_of links free) ≡ linked_from links free.front n
        first = take-linked_from links free.front n free.length size

        other_links : (cell : ℕ) → times cell (cells_of links (get_or chains chain no_cells)) + times cell (cells_of links free) ≡ 0
            → get_or new_links cell 0 ≡ get_or links cell 0
        other_links cell none = moves.others cell (omega (arith, none, times-append cell (cells_of links free) (cells_of links (get_or chains chain no_cells))))

        other_tokens : (cell : ℕ) → times cell (cells_of links (get_or chains chain no_cells)) + times cell (cells_of links free) ≡ 0
            → token_at new_tokens cell ≡ token_at tokens cell
        other_tokens cell none = kept cell (omega (arith, none, split cell n (cells_of links free), ap (times cell) first))

        same_cells : (cell : ℕ)
            → times cell (cells_of new_links new_ends) + times cell (cells_of new_links new_free)
            ≡ times cell (cells_of links (get_or chains chain no_cells)) + times cell (cells_of links free)
        same_cells cell =
            omega (
              arith,
              ap (times cell) moves.moved,
              ap (times cell) moves.left,
              times-append cell (cells_of links (get_or chains chain no_cells)) (take n (cells_of links free)),
              split cell n (cells_of links free),
            )

        pub IsSound-put : IsSound new_links new_tokens (set chains chain new_ends) new_free
        IsSound-put = IsSound-after links tokens chains free sound chain known new_links new_tokens new_ends new_free same_links same_tokens
            moves.to_chain moves.from_chain other_links other_tokens same_cells

        held_after : held_in new_links new_tokens new_ends ≡ held_in links tokens (get_or chains chain no_cells) ++ zip (take n (cells_of links free)) values
        held_after =
            let own = cells_of links (get_or chains chain no_cells) in
            let came = take n (cells_of links free) in
            let pair : ℕ → Held = λ cell. (cell, token_at new_tokens cell) in
            ap (map pair) moves.moved
            ∙ map-append pair own came
            ∙ ap₂ ◌++◌
            (map-same pair (λ cell. (cell, token_at tokens cell)) own (λ cell stands.
            ap (λ t. (cell, t)) (kept cell (omega (
              arith,
              stands,
              chain_apart links tokens chains free sound chain known cell,
              split cell n (cells_of links free),
              ap (times cell) first,
            )))))
            (pairs_are (token_at new_tokens) came ∙ ap (zip came) (ap (map (token_at new_tokens)) first ∙ filled))

        pub chains_put : map (held_in new_links new_tokens) (set chains chain new_ends)
            ≡ set (map (held_in links tokens) chains) chain (chain_of (shared_of links tokens chains free) chain ++ zip (take n (cells_of links free)) values)
        chains_put =
            chains_after links tokens chains free sound chain known new_links new_tokens new_ends new_free same_links same_tokens
            moves.to_chain moves.from_chain other_links other_tokens same_cells
            ∙ ap (set (map (held_in links tokens) chains) chain)
            (held_after ∙ ap (λ held. held ++ zip (take n (cells_of links free)) values) (sym (chain_of-shared_of links tokens chains free chain)))

    module _ (moves : MovesCells links new_links (get_or chains chain no_cells) new_ends free new_free n) where
      other_links_taken : (cell : ℕ) → times cell (cells_of links (get_or chains chain no_cells)) + times cell (cells_of links free) ≡ 0
          → get_or new_links cell 0 ≡ get_or links cell 0
      other_links_taken cell none = moves.others cell
          (omega (arith, none, times-append cell (cells_of links (get_or chains chain no_cells)) (cells_of links free)))

      same_cells_taken : (cell : ℕ)
          → times cell (cells_of new_links new_ends) + times cell (cells_of new_links new_free)
          ≡ times cell (cells_of links (get_or chains chain no_cells)) + times cell (cells_of links free)
      same_cells_taken cell =
          omega (
            arith,
            ap (times cell) moves.moved,
            ap (times cell) moves.left,
            times-append cell (cells_of links free) (take n (cells_of links (get_or chains chain no_cells))),
            split cell n (cells_of links (get_or chains chain no_cells)),
          )

      pub IsSound-taken : IsSound new_links tokens (set chains chain new_ends) new_free
      IsSound-taken = IsSound-after links tokens chains free sound chain known new_links tokens new_ends new_free same_links refl
          moves.from_chain moves.to_chain other_links_taken (λ _ _. refl) same_cells_taken

      pub chains_taken : map (held_in new_links tokens) (set chains chain new_ends)
          ≡ set (map (held_in links tokens) chains) chain (drop n (chain_of (shared_of links tokens chains free) chain))
      chains_taken =
          let pair : ℕ → Held = λ cell. (cell, token_at tokens cell) in
          chains_after links tokens chains free sound chain known new_links tokens new_ends new_free same_links refl
          moves.from_chain moves.to_chain other_links_taken (λ _ _. refl) same_cells_taken
          ∙ ap (set (map (held_in links tokens) chains) chain)
          (ap (map pair) moves.left
          ∙ sym (drop-map pair n (cells_of links (get_or chains chain no_cells)))
          ∙ ap (drop n) (sym (chain_of-shared_of links tokens chains free chain)))

      pub free_taken : cells_of new_links new_free ≡ cells_of links free ++ held_cells (take n (chain_of (shared_of links tokens chains free) chain))
      free_taken =
          moves.moved
          ∙ ap (λ xs. cells_of links free ++ xs)
          (sym (ap held_cells (ap (take n) (chain_of-shared_of links tokens chains free chain))
          ∙ sym (take-map (λ (held : Held). held.0) n (held_in links tokens (get_or chains chain no_cells)))
          ∙ ap (take n) (held_cells-held_in links tokens (get_or chains chain no_cells))))

  -- the tokens of the first cells are those of the chain's front
  pub tokens_taken : (n : ℕ) → n ≤ (get_or chains chain no_cells).length →
      map (token_at tokens) (linked_from links (get_or chains chain no_cells).front n)
      ≡ held_tokens (take n (chain_of (shared_of links tokens chains free) chain))
  tokens_taken n size =
      let ends = get_or chains chain no_cells in
      ap (map (token_at tokens)) (sym (take-linked_from links ends.front n ends.length size))
      ∙ sym (take-map (token_at tokens) n (cells_of links ends))
      ∙ ap (take n) (sym (seconds (token_at tokens) (cells_of links ends)))
      ∙ take-map (λ (held : Held). held.1) n (held_in links tokens ends)
      ∙ ap (λ held. held_tokens (take n held)) (sym (chain_of-shared_of links tokens chains free chain))
