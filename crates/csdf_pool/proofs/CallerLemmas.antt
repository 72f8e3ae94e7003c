-- What holds of every pool whose cells are shared out, for the proofs of callers.
use Rattle.std.proofs.Common.{◌∙◌, ap, sym, arith, ◌++◌, ℤ, ◌≤◌, take, drop, zip, length-take-le, ◌≡◌, ℕ, ◌+◌, ◌<◌, List, [], ◌∷◌, length, get_or, map}
use Rattle.std.proofs.Common.{sum_by, nat_lt, if◌then◌else◌, refl, subst, length-append}
use Rattle.std.proofs.lemmas.List.{length-map, map-append, drop-map}
use Rattle.std.proofs.lemmas.Slice.Zip.{seconds-zip}
use Rattle.std.proofs.lemmas.List.Sums.{sum_by-cons}
use Rattle.std.proofs.lemmas.Bool.Decides.{nat_tests}
use Rattle.std.proofs.lemmas.Grind.{get_or_default_zero}
use Rattle.std.specs.List.{concat}
use Rattle.csdf_pool.specs.Cells.{times}
use Rattle.csdf_pool.specs.Pool.{Held, Shared, held_cells, held_tokens, all_cells, IsPartition}
use Rattle.csdf_pool.proofs.Times.{times_at}
use Rattle.csdf_pool.proofs.Totals.{length-once}

length-held_cells : (chains : List (List Held)) → length (concat (map held_cells chains)) ≡ sum_by length chains
length-held_cells [] = refl
length-held_cells (chain ∷ chains) =
    omega (
      arith,
      length-append (held_cells chain) (concat (map held_cells chains)),
      length-map chain (λ (held : Held). held.0),
      sum_by-cons (length {A = Held}) chain chains,
      length-held_cells chains,
    )

within : (t cell size : ℕ) → t ≡ (if nat_lt cell size then 1 else 0) → 0 < t → cell < size
within t cell size is some = grind (arith, nat_tests)

stands_once : (t cell size : ℕ) → t ≡ (if nat_lt cell size then 1 else 0) → cell < size → t ≡ 1
stands_once t cell size is below = grind (arith, nat_tests)

-- the chains and the free list have all the cells
pub sizes_add_up : (pool : Shared) → IsPartition pool → sum_by length pool.chains + length pool.free ≡ pool.size
sizes_add_up pool partition =
    omega (
      arith,
      length-once pool.size (all_cells pool)
          (λ cell below. stands_once (times cell (all_cells pool)) cell pool.size (partition cell) below)
          (λ k d below.
          within (times (get_or (all_cells pool) k d) (all_cells pool)) (get_or (all_cells pool) k d) pool.size
          (partition (get_or (all_cells pool) k d))
          (subst (λ cell. 0 < times cell (all_cells pool)) (sym (get_or_default_zero (all_cells pool) k d below)) (times_at (all_cells pool) k below))),
      length-append (concat (map held_cells pool.chains)) pool.free,
      length-held_cells pool.chains,
    )

-- the tokens of a chain after a put of many: the old ones, then those put
pub held_tokens-put : (chain : List Held) (free : List ℕ) (tokens : List ℤ) → length tokens ≤ length free →
    held_tokens (chain ++ zip (take (length tokens) free) tokens) ≡ held_tokens chain ++ tokens
held_tokens-put chain free tokens room =
    map-append (λ (held : Held). held.1) chain (zip (take (length tokens) free) tokens)
    ∙ ap (λ ts. held_tokens chain ++ ts)
    (seconds-zip (take (length tokens) free) tokens (sym (length-take-le (length tokens) free room)))

-- and after a take of many: the old ones without the first
pub held_tokens-taken : (n : ℕ) (chain : List Held) → held_tokens (drop n chain) ≡ drop n (held_tokens chain)
held_tokens-taken n chain = sym (drop-map (λ (held : Held). held.1) n chain)

pub length-held_tokens : (chain : List Held) → length (held_tokens chain) ≡ length chain
length-held_tokens chain = length-map chain (λ (held : Held). held.1)
