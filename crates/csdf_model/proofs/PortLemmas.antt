-- The numbers of the channels that pass a test, and the ports of each actor.
use Rattle.std.proofs.Common.{◌≡◌, ℕ, suc, ◌+◌, ◌<◌, ◌≤◌, Bool, true, false, cond, List, [], ◌∷◌, ◌++◌, length, get_or, map, sym, ap, ◌∙◌, arith}
use Rattle.std.specs.Prelude.{All}
use Rattle.std.specs.List.{AllByRecursion, range_with_len}
use Rattle.std.proofs.lemmas.List.{get_or-map, length-map, map_push}
use Rattle.std.proofs.lemmas.List.Elements.{All-from_recursion}
use Rattle.std.proofs.lemmas.List.FromFn.{get_or-map-range_with_len, length-map-range_with_len, map-range_with_len_more}
use Rattle.csdf_model.specs.Graph.{numbers_from}

-- each number is below the count of all
below_from : {A : Type 0} (test : A → Bool) (n i : ℕ) (xs : List A) → i + length xs ≤ n → AllByRecursion (λ c. c < n) (numbers_from i test xs)
below_from test n i [] le = tt
below_from test n i (x ∷ xs) le = by (test x) (below_from test n (suc i) xs (omega arith))
  where
    by : (b : Bool) → AllByRecursion (λ c. c < n) (numbers_from (suc i) test xs)
        → AllByRecursion (λ c. c < n) (cond b (i ∷ numbers_from (suc i) test xs) (numbers_from (suc i) test xs))
    by true rest = (omega arith, rest)
    by false rest = rest

pub numbers_within : {A : Type 0} (test : A → Bool) (xs : List A) → All (λ c. c < length xs) (numbers_from 0 test xs)
numbers_within test xs =
    All-from_recursion (λ c. c < length xs) (numbers_from 0 test xs) (below_from test (length xs) 0 xs (omega arith))

-- no more numbers than elements
pub few_numbers : {A : Type 0} (test : A → Bool) (i : ℕ) (xs : List A) → length (numbers_from i test xs) ≤ length xs
few_numbers test i [] = omega arith
few_numbers test i (x ∷ xs) = by (test x) (few_numbers test (suc i) xs)
  where
    by : (b : Bool) → length (numbers_from (suc i) test xs) ≤ length xs
        → length (cond b (i ∷ numbers_from (suc i) test xs) (numbers_from (suc i) test xs)) ≤ suc (length xs)
    by true rest = omega arith
    by false rest = omega arith

-- ---- what was made for each of the numbers 0, 1, ..

module _ {X Y : Type 0} (view : X → Y) (h : ℕ → Y) where
  -- for one number more
  pub made_more : (items : List X) (n : ℕ) (x : X) → map view items ≡ map h (range_with_len 0 n) → view x ≡ h n
      → map view (items ++ x ∷ []) ≡ map h (range_with_len 0 (n + 1))
  made_more items n x so_far is =
      map_push view items x ∙ ap (λ ys. ys ++ view x ∷ []) so_far ∙ ap (λ y. map h (range_with_len 0 n) ++ y ∷ []) is
      ∙ sym (map-range_with_len_more h 0 n n (omega arith))

  -- as many as numbers
  pub made_count : (items : List X) (n : ℕ) → map view items ≡ map h (range_with_len 0 n) → length items ≡ n
  made_count items n made = sym (length-map items view) ∙ ap length made ∙ length-map-range_with_len h 0 n

  -- for number a
  pub made_at : (items : List X) (n a : ℕ) (x : X) → map view items ≡ map h (range_with_len 0 n) → a < n → x ≡ get_or items a x → view x ≡ h a
  made_at items n a x made lt is =
      let inside : a < length items = omega (arith, made_count items n made) in
      ap view is ∙ sym (get_or-map view items a x (view x) inside) ∙ ap (λ ys. get_or ys a (view x)) made
      ∙ get_or-map-range_with_len h 0 n a a (view x) lt (omega arith)
