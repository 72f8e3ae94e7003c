-- A pool as callers see it, when its cells are shared out, and what its calls do to it.
use Rattle.std.specs.Prelude.{◌≡◌, ℕ, zero, suc, ℤ, List, [], ◌∷◌, ◌++◌, map, take, drop, slice_index, slice_index_or, slice_set, nat_lt, if◌then◌else◌}
use Rattle.std.specs.List.{concat}
use Rattle.csdf_pool.specs.Cells.{times}

-- a cell in a chain, and the token that it holds
abbrev pub Held : Type 0
Held = ℕ × ℤ

-- the cells of a chain, front first
abbrev pub held_cells : List Held → List ℕ
held_cells chain = map (λ held. held.0) chain

-- the tokens of a chain, front first
abbrev pub held_tokens : List Held → List ℤ
held_tokens chain = map (λ held. held.1) chain

-- the number of cells, what each chain holds, and the free cells, each list front first
pub record Shared : Type 0 where
  pub size : ℕ
  pub chains : List (List Held)
  pub free : List ℕ

-- what the chain holds
abbrev pub chain_of : Shared → ℕ → List Held
chain_of pool chain = slice_index_or pool.chains chain []

-- the cells of all chains and the free list, put end to end
abbrev pub all_cells : Shared → List ℕ
all_cells pool = concat (map held_cells pool.chains) ++ pool.free

-- each number below the pool's size stands exactly once among its cells, and no other number does
abbrev pub IsPartition : Shared → Type 0
IsPartition pool = (cell : ℕ) → times cell (all_cells pool) ≡ (if nat_lt cell pool.size then 1 else 0)

-- after one put: the front of the free list stands at the end of the chain, with the token
abbrev pub after_put : Shared → ℕ → ℤ → Shared
after_put pool chain token = record {
  size = pool.size;
  chains = slice_set pool.chains chain (chain_of pool chain ++ (slice_index pool.free 0, token) ∷ []);
  free = drop 1 pool.free;
}

-- after one take: the front of the chain stands at the end of the free list
abbrev pub after_take : Shared → ℕ → Shared
after_take pool chain = record {
  size = pool.size;
  chains = slice_set pool.chains chain (drop 1 (chain_of pool chain));
  free = pool.free ++ held_cells (take 1 (chain_of pool chain));
}

-- after a put of each token in order
abbrev pub after_puts : Shared → ℕ → List ℤ → Shared
after_puts pool chain [] = pool
after_puts pool chain (token ∷ tokens) = after_puts (after_put pool chain token) chain tokens

-- after so many takes
abbrev pub after_takes : Shared → ℕ → ℕ → Shared
after_takes pool chain zero = pool
after_takes pool chain (suc n) = after_takes (after_take pool chain) chain n
