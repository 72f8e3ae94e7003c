-- Chains: cells that a table of links puts one after the other.
use Rattle.std.specs.Prelude.{◌≡◌, ℕ, zero, suc, ◌-◌, ◌<◌, List, [], ◌∷◌, ◌++◌, length, slice_index, take, drop, All}
use Rattle.csdf_pool.specs.Cells.{times}
use Rattle.csdf_pool.specs.declared.ends.Ends.{Ends}

-- so many cells: the first one, and after each cell the one that its link names
abbrev pub linked_from : List ℕ → ℕ → ℕ → List ℕ
linked_from links cell zero = []
linked_from links cell (suc n) = cell ∷ linked_from links (slice_index links cell) n

-- the cells of a chain, front first
abbrev pub cells_of : List ℕ → Ends → List ℕ
cells_of links ends = linked_from links ends.front ends.length

-- the cells lie in the table, and the last one is the end that is noted
pub record IsChain (links : List ℕ) (ends : Ends) : Type 0 where
  pub within : All (λ cell. cell < length links) (cells_of links ends)
  pub ended : 0 < ends.length → slice_index (cells_of links ends) (ends.length - 1) ≡ ends.end

-- the first n cells of one chain went to the end of another, and no other link changed
pub record MovesCells (old new : List ℕ) (from from_after to to_after : Ends) (n : ℕ) : Type 0 where
  pub left : cells_of new from_after ≡ drop n (cells_of old from)
  pub moved : cells_of new to_after ≡ cells_of old to ++ take n (cells_of old from)
  pub from_chain : IsChain new from_after
  pub to_chain : IsChain new to_after
  pub others : (cell : ℕ) → times cell (cells_of old from ++ cells_of old to) ≡ 0 → slice_index new cell ≡ slice_index old cell
