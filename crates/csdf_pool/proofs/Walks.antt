-- The cells that links put one after the other.
use Rattle.std.proofs.Common.{◌≡◌, ℕ, zero, suc, ◌-◌, ◌<◌, ◌≤◌, List, ◌∷◌, length, get_or, take, drop, ap, refl, arith, ◌∙◌, sym}
use Rattle.csdf_pool.specs.Cells.{times}
use Rattle.csdf_pool.specs.Chains.{linked_from}
use Rattle.csdf_pool.proofs.Times.{times-cons_same, times-cons-le}

pub length-linked_from : (links : List ℕ) (cell n : ℕ) → length (linked_from links cell n) ≡ n
length-linked_from links cell zero = refl
length-linked_from links cell (suc n) = ap suc (length-linked_from links (get_or links cell 0) n)

pub take-linked_from : (links : List ℕ) (cell k n : ℕ) → k ≤ n → take k (linked_from links cell n) ≡ linked_from links cell k
take-linked_from links cell zero n h = refl
take-linked_from links cell (suc k) zero h = absurd (omega (arith, h))
take-linked_from links cell (suc k) (suc n) h =
    ap (λ xs. cell ∷ xs) (take-linked_from links (get_or links cell 0) k n (omega (arith, h)))

-- after the first cells the chain goes on from the link of their last one
pub drop-linked_from : (links : List ℕ) (cell k n : ℕ) → k < n →
    drop (suc k) (linked_from links cell n) ≡ linked_from links (get_or links (get_or (linked_from links cell n) k 0) 0) (n - suc k)
drop-linked_from links cell k zero h = absurd (omega (arith, h))
drop-linked_from links cell zero (suc n) h = ap (linked_from links (get_or links cell 0)) (omega arith)
drop-linked_from links cell (suc k) (suc n) h =
    drop-linked_from links (get_or links cell 0) k n (omega (arith, h))
    ∙ ap (linked_from links (get_or links (get_or (linked_from links (get_or links cell 0) n) k 0) 0)) (omega arith)

-- links that agree on all cells but the last give the same cells
pub linked_from-same_front : (old new : List ℕ) (cell n : ℕ) →
    ((c : ℕ) → 0 < times c (linked_from old cell n) → get_or new c 0 ≡ get_or old c 0) →
    linked_from new cell (suc n) ≡ linked_from old cell (suc n)
linked_from-same_front old new cell zero h = refl
linked_from-same_front old new cell (suc n) h =
    let next : get_or new cell 0 ≡ get_or old cell 0 = h cell (omega (arith, times-cons_same cell (linked_from old (get_or old cell 0) n))) in
    let rest : linked_from new (get_or old cell 0) (suc n) ≡ linked_from old (get_or old cell 0) (suc n) =
    linked_from-same_front old new (get_or old cell 0) n
    (λ c stands. h c (omega (arith, stands, times-cons-le c cell (linked_from old (get_or old cell 0) n)))) in
    ap (λ c. cell ∷ linked_from new c (suc n)) next ∙ ap (λ xs. cell ∷ xs) rest

-- links that agree on the cells give the same cells
pub linked_from-same : (old new : List ℕ) (cell n : ℕ) →
    ((c : ℕ) → 0 < times c (linked_from old cell n) → get_or new c 0 ≡ get_or old c 0) →
    linked_from new cell n ≡ linked_from old cell n
linked_from-same old new cell n h =
    sym (take-linked_from new cell n (suc n) (omega arith))
    ∙ ap (take n) (linked_from-same_front old new cell n h)
    ∙ take-linked_from old cell n (suc n) (omega arith)
