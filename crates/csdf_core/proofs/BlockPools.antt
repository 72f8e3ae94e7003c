-- Many firings' takes and puts of cells, made at one go.
use Rattle.std.proofs.Common.{◌≡◌, ℕ, zero, suc, ◌+◌, ◌<◌, ◌≤◌, List, [], ◌∷◌, ◌++◌, length, get_or, set, take, drop, map, zip, refl, ap, subst}
use Rattle.std.proofs.Common.{◌∙◌, sym, arith, length-set}
use Rattle.std.specs.Prelude.{ℤ}
use Rattle.std.specs.List.{concat}
use Rattle.std.proofs.lemmas.List.{take-append-drop, map-append, length-take-le, length-map}
use Rattle.csdf_pool.specs.Cells.{times}
use Rattle.csdf_pool.specs.Pool.{Held, Shared, held_cells, all_cells, IsPartition, after_puts, after_takes}
use Rattle.csdf_pool.proofs.Lists.{times-concat-set}
use Rattle.csdf_pool.proofs.Times.{times-append}
use Rattle.csdf_pool.proofs.OneByOne.{puts_are, takes_are}
use Rattle.csdf_pool.proofs.CallerLemmas.{held_tokens-put, held_tokens-taken}
use Rattle.csdf_core.specs.Ports.{tokens_in, tokens_at}
use Rattle.csdf_core.proofs.PortLemmas.{tokens_in-set, tokens_at-map}

-- ---- more of the same

-- ---- takes and puts of different chains, in either order

-- ---- the tokens of a chain, and the cells shared out

set_held : (chains : List (List Held)) (c : ℕ) (chain : List Held) → map held_cells (set chains c chain) ≡ set (map held_cells chains) c (held_cells chain)
set_held [] c chain = refl
set_held (x ∷ chains) zero chain = refl
set_held (x ∷ chains) (suc c) chain = ap (λ ts. held_cells x ∷ ts) (set_held chains c chain)

get_held : (chains : List (List Held)) (c : ℕ) → get_or (map held_cells chains) c [] ≡ held_cells (get_or chains c [])
get_held [] c = refl
get_held (x ∷ chains) zero = refl
get_held (x ∷ chains) (suc c) = get_held chains c

-- how often a cell stands in all, where one chain is another
times_set : (cell : ℕ) (chains : List (List Held)) (c : ℕ) (chain : List Held) → c < length chains
    → times cell (concat (map held_cells (set chains c chain))) + times cell (held_cells (get_or chains c []))
    ≡ times cell (concat (map held_cells chains)) + times cell (held_cells chain)
times_set cell chains c chain lt =
    ap (λ xs. times cell (concat xs) + times cell (held_cells (get_or chains c []))) (set_held chains c chain)
    ∙ ap (λ xs. times cell (concat (set (map held_cells chains) c (held_cells chain))) + times cell xs) (sym (get_held chains c))
    ∙ times-concat-set cell (map held_cells chains) c (held_cells chain) (omega (arith, lt, length-map chains held_cells))

firsts-zip : (xs : List ℕ) (v : List ℤ) → length xs ≡ length v → held_cells (zip xs v) ≡ xs
firsts-zip [] v e = refl
firsts-zip (x ∷ xs) [] e = absurd (omega arith)
firsts-zip (x ∷ xs) (y ∷ v) e = ap (λ t. x ∷ t) (firsts-zip xs v (omega arith))

-- what a pool keeps and what it then holds
pub record Holds (pool new : Shared) (tokens : List (List ℤ)) : Type 0 where
  pub size : new.size ≡ pool.size
  pub chained : length new.chains ≡ length pool.chains
  pub tokens_are : tokens_in new ≡ tokens
  pub partition : IsPartition pool → IsPartition new

pub holds_taken : (pool : Shared) (c n : ℕ) → c < length pool.chains
    → Holds pool (after_takes pool c n) (set (tokens_in pool) c (drop n (tokens_at (tokens_in pool) c)))
holds_taken pool c n lt =
    let held : List Held = get_or pool.chains c [] in
    let new : Shared = record { size = pool.size; chains = set pool.chains c (drop n held); free = pool.free ++ held_cells (take n held) } in
    subst (λ (q : Shared). Holds pool q (set (tokens_in pool) c (drop n (tokens_at (tokens_in pool) c)))) (sym (takes_are pool.size c pool.chains pool.free n lt))
    (record {
      size = refl;
      chained = length-set pool.chains c (drop n held);
      tokens_are = tokens_in-set pool.chains c (drop n held)
          ∙ ap (set (tokens_in pool) c) (held_tokens-taken n held ∙ ap (drop n) (sym (tokens_at-map pool.chains c)));
      partition = λ part cell.
          let whole : times cell (held_cells held) ≡ times cell (held_cells (take n held)) + times cell (held_cells (drop n held)) =
          ap (λ hs. times cell (held_cells hs)) (sym (take-append-drop n held))
          ∙ ap (times cell) (map-append (λ (h : Held). h.0) (take n held) (drop n held))
          ∙ times-append cell (held_cells (take n held)) (held_cells (drop n held)) in
          let total : times cell (all_cells new) ≡ times cell (all_cells pool) = omega (
            arith,
            times-append cell (concat (map held_cells new.chains)) new.free,
            times-append cell (concat (map held_cells pool.chains)) pool.free,
            times-append cell pool.free (held_cells (take n held)),
            times_set cell pool.chains c (drop n held) lt,
            whole,
          ) in
          total ∙ part cell;
    })

pub holds_put : (pool : Shared) (c : ℕ) (v : List ℤ) → c < length pool.chains → length v ≤ length pool.free
    → Holds pool (after_puts pool c v) (set (tokens_in pool) c (tokens_at (tokens_in pool) c ++ v))
holds_put pool c v lt room =
    let held : List Held = get_or pool.chains c [] in
    let cells : List ℕ = take (length v) pool.free in
    let size : length cells ≡ length v = length-take-le (length v) pool.free room in
    let more : List Held = held ++ zip cells v in
    let new : Shared = record { size = pool.size; chains = set pool.chains c more; free = drop (length v) pool.free } in
    subst (λ (q : Shared). Holds pool q (set (tokens_in pool) c (tokens_at (tokens_in pool) c ++ v))) (sym (puts_are pool.size c pool.chains pool.free v lt room))
    (record {
      size = refl;
      chained = length-set pool.chains c more;
      tokens_are = tokens_in-set pool.chains c more
          ∙ ap (set (tokens_in pool) c) (held_tokens-put held pool.free v room ∙ ap (λ ts. ts ++ v) (sym (tokens_at-map pool.chains c)));
      partition = λ part cell.
          let whole : times cell (held_cells more) ≡ times cell (held_cells held) + times cell cells =
          ap (times cell) (map-append (λ (h : Held). h.0) held (zip cells v))
          ∙ times-append cell (held_cells held) (held_cells (zip cells v))
          ∙ ap (λ xs. times cell (held_cells held) + times cell xs) (firsts-zip cells v size) in
          let was : times cell pool.free ≡ times cell cells + times cell (drop (length v) pool.free) =
          ap (times cell) (sym (take-append-drop (length v) pool.free)) ∙ times-append cell cells (drop (length v) pool.free) in
          let total : times cell (all_cells new) ≡ times cell (all_cells pool) = omega (
            arith,
            times-append cell (concat (map held_cells new.chains)) new.free,
            times-append cell (concat (map held_cells pool.chains)) pool.free,
            times_set cell pool.chains c more lt,
            whole,
            was,
          ) in
          total ∙ part cell;
    })
