-- What the tables of a pool show, read back from the pool that callers see.
use Rattle.std.proofs.Common.{◌≡◌, ℕ, ◌<◌, ◌≤◌, ◌∙◌, ℤ, List, length, get_or, ap, sym, arith}
use Rattle.std.proofs.lemmas.List.{length-map}
use Rattle.csdf_pool.specs.declared.ends.Ends.{Ends}
use Rattle.csdf_pool.specs.Chains.{cells_of}
use Rattle.csdf_pool.specs.Inside.{no_cells, token_at, held_in, shared_of}
use Rattle.csdf_pool.specs.Pool.{Shared, chain_of}
use Rattle.csdf_pool.proofs.ChainLemmas.{length-cells_of}
use Rattle.csdf_pool.proofs.Shares.{chain_of-shared_of}
use Rattle.csdf_pool.proofs.Tables.{get_or-default}

-- what a call that moves n cells knows of the chain that it names, and of the one from which the cells go
pub record Chosen (chains : List Ends) (chain : ℕ) (ends from : Ends) (n : ℕ) : Type 0 where
  pub known : chain < length chains
  pub is : ends ≡ get_or chains chain no_cells
  pub size : n ≤ from.length

module _ (links : List ℕ) (tokens : List ℤ) (chains : List Ends) (free : Ends) (pool : Shared) (view : shared_of links tokens chains free ≡ pool) where
  pub length-chains : length pool.chains ≡ length chains
  length-chains = sym (ap (λ (shown : Shared). length shown.chains) view) ∙ length-map chains (held_in links tokens)

  pub length-free : length pool.free ≡ free.length
  length-free = sym (ap (λ (shown : Shared). length shown.free) view) ∙ length-cells_of links free

  pub chain_shown : (chain : ℕ) → chain_of pool chain ≡ held_in links tokens (get_or chains chain no_cells)
  chain_shown chain = sym (ap (λ (shown : Shared). chain_of shown chain) view) ∙ chain_of-shared_of links tokens chains free chain

  pub length-chain : (chain : ℕ) → length (chain_of pool chain) ≡ (get_or chains chain no_cells).length
  length-chain chain =
      ap length (chain_shown chain)
      ∙ length-map (cells_of links (get_or chains chain no_cells)) (λ cell. (cell, token_at tokens cell))
      ∙ length-cells_of links (get_or chains chain no_cells)

  pub to_take : (chain n : ℕ) (ends : Ends) → chain < length pool.chains → n ≤ length (chain_of pool chain) → ends ≡ get_or chains chain ends
      → Chosen chains chain ends (get_or chains chain no_cells) n
  to_take chain n ends below enough is =
      let known : chain < length chains = omega (arith, below, length-chains) in
      record { known = known; is = is ∙ get_or-default chains chain ends no_cells known; size = omega (arith, enough, length-chain chain) }

  pub to_put : (chain n : ℕ) (ends : Ends) → chain < length pool.chains → n ≤ length pool.free → ends ≡ get_or chains chain ends
      → Chosen chains chain ends free n
  to_put chain n ends below room is =
      let known : chain < length chains = omega (arith, below, length-chains) in
      record { known = known; is = is ∙ get_or-default chains chain ends no_cells known; size = omega (arith, room, length-free) }
