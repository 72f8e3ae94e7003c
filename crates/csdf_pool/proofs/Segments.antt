-- The first cells of a chain.
use Rattle.std.proofs.Common.{◌≡◌, ℕ, ◌-◌, ◌<◌, ◌≤◌, ◌++◌, ◌∙◌, List, length, take, drop, get_or, ap, sym, subst, All, arith, take-append-drop}
use Rattle.std.proofs.lemmas.List.Elements.{All-take}
use Rattle.std.proofs.lemmas.List.{get_or-take}
use Rattle.csdf_pool.specs.declared.ends.Ends.{Ends}
use Rattle.csdf_pool.specs.Cells.{times, EachOnce}
use Rattle.csdf_pool.specs.Chains.{linked_from, cells_of, IsChain}
use Rattle.csdf_pool.proofs.Times.{times-append}
use Rattle.csdf_pool.proofs.Walks.{take-linked_from}

module _ (links : List ℕ) (ends : Ends) (n : ℕ) (size : n ≤ ends.length) where
  first : take n (cells_of links ends) ≡ linked_from links ends.front n
  first = take-linked_from links ends.front n ends.length size

  -- they lie in the table
  pub segment_within : IsChain links ends → All (λ cell. cell < length links) (linked_from links ends.front n)
  segment_within chain =
      subst (All (λ cell. cell < length links)) first (All-take (λ cell. cell < length links) n (cells_of links ends) chain.within)

  -- none stands among them twice
  pub segment_once : (others : List ℕ) → EachOnce (cells_of links ends ++ others) → EachOnce (linked_from links ends.front n)
  segment_once others once cell =
      omega (
        arith,
        once cell,
        times-append cell (cells_of links ends) others,
        ap (times cell) (take-append-drop n (cells_of links ends)),
        times-append cell (take n (cells_of links ends)) (drop n (cells_of links ends)),
        ap (times cell) first,
      )

  -- the last of them stands in the chain at its place
  pub segment_end : 0 < n → get_or (linked_from links ends.front n) (n - 1) 0 ≡ get_or (cells_of links ends) (n - 1) 0
  segment_end some =
      ap (λ cells. get_or cells (n - 1) 0) (sym first) ∙ get_or-take n (cells_of links ends) (n - 1) 0 (omega arith)
