-- Lists of lists, and lists of pairs.
use Rattle.std.proofs.Common.{◌≡◌, ◌≢◌, ℕ, zero, suc, ◌+◌, ◌<◌, ◌≤◌, List, [], ◌∷◌, length, get_or, map, set, zip, ap, ap₂, refl, arith}
use Rattle.std.specs.List.{concat}
use Rattle.csdf_pool.specs.Cells.{times}
use Rattle.csdf_pool.proofs.Times.{times-append}

-- two functions that agree at each place give the same list
pub map_same : {A B : Type 0} (f g : A → B) (xs : List A) (d : A) →
    ((i : ℕ) → i < length xs → g (get_or xs i d) ≡ f (get_or xs i d)) → map g xs ≡ map f xs
map_same f g [] d same = refl
map_same f g (x ∷ xs) d same =
    ap₂ ◌∷◌ (same 0 (omega arith)) (map_same f g xs d (λ i below. same (suc i) (omega (arith, below))))

-- at each place but the one that is set
pub map-set_but : {A B : Type 0} (f g : A → B) (xs : List A) (at : ℕ) (y d : A) →
    ((i : ℕ) → i < length xs → i ≢ at → g (get_or xs i d) ≡ f (get_or xs i d)) →
    map g (set xs at y) ≡ set (map f xs) at (g y)
map-set_but f g [] at y d same = refl
map-set_but f g (x ∷ xs) zero y d same =
    ap (λ ys. g y ∷ ys) (map_same f g xs d (λ i below. same (suc i) (omega (arith, below)) (λ e. omega (arith, e))))
map-set_but f g (x ∷ xs) (suc at) y d same =
    ap₂ ◌∷◌ (same 0 (omega arith) (λ e. omega (arith, e)))
    (map-set_but f g xs at y d (λ i below other. same (suc i) (omega (arith, below)) (λ e. other (omega (arith, e)))))

-- the list put at a place takes the place of the one there
pub times-concat-set : (cell : ℕ) (lists : List (List ℕ)) (at : ℕ) (cells : List ℕ) → at < length lists →
    times cell (concat (set lists at cells)) + times cell (get_or lists at []) ≡ times cell (concat lists) + times cell cells
times-concat-set cell [] at cells h = absurd (omega (arith, h))
times-concat-set cell (xs ∷ lists) zero cells h =
    omega (arith, times-append cell cells (concat lists), times-append cell xs (concat lists))
times-concat-set cell (xs ∷ lists) (suc at) cells h =
    omega (
      arith,
      times-append cell xs (concat (set lists at cells)),
      times-append cell xs (concat lists),
      times-concat-set cell lists at cells (omega (arith, h)),
    )

-- what stands in one of the lists stands in all of them put end to end
pub times-concat-le : (cell : ℕ) (lists : List (List ℕ)) (at : ℕ) → at < length lists →
    times cell (get_or lists at []) ≤ times cell (concat lists)
times-concat-le cell [] at h = absurd (omega (arith, h))
times-concat-le cell (xs ∷ lists) zero h = omega (arith, times-append cell xs (concat lists))
times-concat-le cell (xs ∷ lists) (suc at) h =
    omega (arith, times-append cell xs (concat lists), times-concat-le cell lists at (omega (arith, h)))

-- cells in two of the lists
pub times-concat-two : (cell : ℕ) (lists : List (List ℕ)) (i at : ℕ) → i < length lists → at < length lists → i ≢ at →
    times cell (get_or lists i []) + times cell (get_or lists at []) ≤ times cell (concat lists)
times-concat-two cell [] i at h k other = absurd (omega (arith, h))
times-concat-two cell (xs ∷ lists) zero zero h k other = absurd (other refl)
times-concat-two cell (xs ∷ lists) zero (suc at) h k other =
    omega (arith, times-append cell xs (concat lists), times-concat-le cell lists at (omega (arith, k)))
times-concat-two cell (xs ∷ lists) (suc i) zero h k other =
    omega (arith, times-append cell xs (concat lists), times-concat-le cell lists i (omega (arith, h)))
times-concat-two cell (xs ∷ lists) (suc i) (suc at) h k other =
    omega (
      arith,
      times-append cell xs (concat lists),
      times-concat-two cell lists i at (omega (arith, h)) (omega (arith, k)) (λ e. other (ap suc e)),
    )

-- the first parts of a list's pairs
pub firsts : {A : Type 0} (f : ℕ → A) (xs : List ℕ) → map (λ (p : ℕ × A). p.0) (map (λ x. (x, f x)) xs) ≡ xs
firsts f [] = refl
firsts f (x ∷ xs) = ap (λ ys. x ∷ ys) (firsts f xs)

-- the second parts
pub seconds : {A : Type 0} (f : ℕ → A) (xs : List ℕ) → map (λ (p : ℕ × A). p.1) (map (λ x. (x, f x)) xs) ≡ map f xs
seconds f [] = refl
seconds f (x ∷ xs) = ap (λ ys. f x ∷ ys) (seconds f xs)

-- each beside what the function gives
pub pairs_are : {A : Type 0} (f : ℕ → A) (xs : List ℕ) → map (λ x. (x, f x)) xs ≡ zip xs (map f xs)
pairs_are f [] = refl
pairs_are f (x ∷ xs) = ap (λ ys. (x, f x) ∷ ys) (pairs_are f xs)
