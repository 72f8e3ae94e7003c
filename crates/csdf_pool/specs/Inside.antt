-- What the tables of a pool show, and the facts that every pool keeps.
use Rattle.std.specs.Prelude.{◌≡◌, ℕ, ◌<◌, ◌≤◌, ℤ, pos, List, length, map, slice_index_or}
use Rattle.csdf_model.specs.declared.limits.TheConstants.{MAX_CELLS}
use Rattle.csdf_pool.specs.declared.ends.Ends.{Ends}
use Rattle.csdf_pool.specs.Chains.{cells_of, IsChain}
use Rattle.csdf_pool.specs.Pool.{Held, Shared, IsPartition}

-- a chain with no cell
abbrev pub no_cells : Ends
no_cells = record { front = 0; end = 0; length = 0 }

-- the token in a cell
abbrev pub token_at : List ℤ → ℕ → ℤ
token_at tokens cell = slice_index_or tokens cell (pos 0)

-- the cells of a chain with their tokens
abbrev pub held_in : List ℕ → List ℤ → Ends → List Held
held_in links tokens ends = map (λ cell. (cell, token_at tokens cell)) (cells_of links ends)

-- the pool that the tables show
abbrev pub shared_of : List ℕ → List ℤ → List Ends → Ends → Shared
shared_of links tokens chains free = record {
  size = length links;
  chains = map (held_in links tokens) chains;
  free = cells_of links free;
}

-- the tables are alike in length, each chain and the free list is one, and the cells are shared out
pub record IsSound (links : List ℕ) (tokens : List ℤ) (chains : List Ends) (free : Ends) : Type 0 where
  pub same_size : length tokens ≡ length links
  pub size_fits : length links ≤ MAX_CELLS
  pub each_chain : (i : ℕ) → i < length chains → IsChain links (slice_index_or chains i no_cells)
  pub free_chain : IsChain links free
  pub partition : IsPartition (shared_of links tokens chains free)
