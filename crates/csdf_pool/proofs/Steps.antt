-- Going along linked cells, several at a time, and reading or writing their tokens.
use Rattle.std.proofs.Common.{◌≡◌, ℕ, suc, ◌+◌, ◌-◌, ◌<◌, ◌≤◌, ℤ, List, ◌++◌, length, get_or, take, drop, map, ap, ap₂, arith, ◌∙◌, sym, subst}
use Rattle.std.proofs.Common.{get_or-drop, take-append-drop, All}
use Rattle.std.proofs.Math.Seq.{take-add}
use Rattle.std.proofs.lemmas.List.{map-append, get_or-take, length-take-le, length-drop}
use Rattle.std.proofs.lemmas.List.Elements.{All-same, All-take, All-drop}
use Rattle.csdf_pool.specs.Cells.{times, EachOnce}
use Rattle.csdf_pool.specs.Chains.{linked_from}
use Rattle.csdf_pool.specs.Inside.{token_at}
use Rattle.csdf_pool.proofs.Times.{times-append}
use Rattle.csdf_pool.proofs.Walks.{length-linked_from, take-linked_from, drop-linked_from}
use Rattle.csdf_pool.proofs.Fills.{map-same}

-- how long a piece of a slice is
pub piece_size : {A : Type 0} (xs : List A) (done to : ℕ) → done ≤ to → to ≤ length xs → done + length (take (to - done) (drop done xs)) ≡ to
piece_size xs done to h k = omega (arith, h, k, length-take-le (to - done) (drop done xs) (omega (arith, h, k, length-drop done xs)))

-- the walk has done some of n cells, and goes over k more
module _ (links : List ℕ) (first n done next k to : ℕ) (some : 0 < k) (adds : done + k ≡ to) (fits : to ≤ n)
    (rest : linked_from links next (n - done) ≡ drop done (linked_from links first n)) where
  -- the next cells stand behind those that are done
  some_are : linked_from links next k ≡ take k (drop done (linked_from links first n))
  some_are = sym (take-linked_from links next k (n - done) (omega arith)) ∙ ap (take k) rest

  pub some_within : (P : ℕ → Type 0) → All P (linked_from links first n) → All P (linked_from links next k)
  some_within P all =
      All-same P (linked_from links next k) (take k (drop done (linked_from links first n))) some_are
      (All-take P k (drop done (linked_from links first n)) (All-drop P done (linked_from links first n) all))

  take_some : take to (linked_from links first n) ≡ take done (linked_from links first n) ++ linked_from links next k
  take_some =
      ap (λ j. take j (linked_from links first n)) (sym adds)
      ∙ take-add done k (linked_from links first n)
      ∙ ap (λ xs. take done (linked_from links first n) ++ xs) (sym some_are)

  -- the last of them
  pub last_some : get_or (linked_from links next k) (k - 1) 0 ≡ get_or (linked_from links first n) (to - 1) 0
  last_some =
      ap (λ xs. get_or xs (k - 1) 0) some_are
      ∙ get_or-take k (drop done (linked_from links first n)) (k - 1) 0 (omega arith)
      ∙ get_or-drop done (linked_from links first n) (k - 1) 0
      ∙ ap (λ i. get_or (linked_from links first n) i 0) (omega arith)

  -- the walk goes on from its link
  pub rest_some : (last : ℕ) → last ≡ get_or (linked_from links next k) (k - 1) 0 →
      linked_from links (get_or links last 0) (n - to) ≡ drop to (linked_from links first n)
  rest_some last is =
      let before : suc (to - 1) ≡ to = omega arith in
      ap (λ c. linked_from links (get_or links c 0) (n - to)) (is ∙ last_some)
      ∙ ap (λ j. linked_from links (get_or links (get_or (linked_from links first n) (to - 1) 0) 0) (n - j)) (sym before)
      ∙ sym (drop-linked_from links first (to - 1) n (omega arith))
      ∙ ap (λ j. drop j (linked_from links first n)) before

  -- the last cell lies where all do
  pub last_within : (bound last : ℕ) → All (λ cell. cell < bound) (linked_from links first n) →
      last ≡ get_or (linked_from links next k) (k - 1) 0 → last < bound
  last_within bound last all is =
      subst (λ cell. cell < bound) (sym (is ∙ last_some)) (all (to - 1) 0 (omega (arith, length-linked_from links first n)))

  pub read_some : (table : List ℤ)
      → map (token_at table) (take to (linked_from links first n))
      ≡ map (token_at table) (take done (linked_from links first n)) ++ map (token_at table) (linked_from links next k)
  read_some table = ap (map (token_at table)) take_some ∙ map-append (token_at table) (take done (linked_from links first n)) (linked_from links next k)

  pub times_some : (cell : ℕ)
      → times cell (take to (linked_from links first n))
      ≡ times cell (take done (linked_from links first n)) + times cell (linked_from links next k)
  times_some cell = ap (times cell) take_some ∙ times-append cell (take done (linked_from links first n)) (linked_from links next k)

  module _ (once : EachOnce (linked_from links first n)) where
    apart : (cell : ℕ) → times cell (take done (linked_from links first n)) + times cell (linked_from links next k) ≤ 1
    apart cell =
        omega (
          arith,
          once cell,
          times_some cell,
          ap (times cell) (take-append-drop to (linked_from links first n)),
          times-append cell (take to (linked_from links first n)) (drop to (linked_from links first n)),
        )

    -- no cell stands twice among them
    pub once_some : EachOnce (linked_from links next k)
    once_some cell = omega (arith, apart cell)

    -- what was written before stays
    pub written_some : (old new : List ℤ) (was came : List ℤ) →
        ((cell : ℕ) → times cell (linked_from links next k) ≡ 0 → token_at new cell ≡ token_at old cell) →
        map (token_at old) (take done (linked_from links first n)) ≡ was →
        map (token_at new) (linked_from links next k) ≡ came →
        map (token_at new) (take to (linked_from links first n)) ≡ was ++ came
    written_some old new was came others before now =
        read_some new
        ∙ ap₂ ◌++◌
        (map-same (token_at new) (token_at old) (take done (linked_from links first n))
        (λ cell stands. others cell (omega (arith, stands, apart cell)))
        ∙ before)
        now
