-- Chains that are cut, joined, or left alone.
use Rattle.std.proofs.Common.{◌≡◌, ℕ, zero, suc, ◌-◌, ◌<◌, ◌≤◌, List, length, get_or, take, drop, ap, arith, ◌∙◌, sym, subst, All, get_or-drop}
use Rattle.std.proofs.lemmas.List.Elements.{All-take, All-drop}
use Rattle.std.proofs.lemmas.List.{get_or-take}
use Rattle.csdf_pool.specs.declared.ends.Ends.{Ends}
use Rattle.csdf_pool.specs.Cells.{times}
use Rattle.csdf_pool.specs.Chains.{linked_from, cells_of, IsChain}
use Rattle.csdf_pool.proofs.Walks.{length-linked_from, take-linked_from, drop-linked_from, linked_from-same}

-- the length of a chain is the number of its cells
pub length-cells_of : (links : List ℕ) (ends : Ends) → length (cells_of links ends) ≡ ends.length
length-cells_of links ends = length-linked_from links ends.front ends.length

-- each cell of a chain lies in the table
pub cell_in_table : (links : List ℕ) (ends : Ends) (i : ℕ) → IsChain links ends → i < ends.length →
    get_or (cells_of links ends) i 0 < length links
cell_in_table links ends i chain h = chain.within i 0 (omega (arith, h, length-cells_of links ends))

-- the cells behind the first n begin at the link of the last of these
pub drop-cells_of : (links : List ℕ) (ends : Ends) (n : ℕ) → 0 < n → n < ends.length →
    drop n (cells_of links ends) ≡ linked_from links (get_or links (get_or (cells_of links ends) (n - 1) 0) 0) (ends.length - n)
drop-cells_of links ends zero some h = absurd (omega (arith, some))
drop-cells_of links ends (suc k) some h =
    drop-linked_from links ends.front k ends.length (omega (arith, h))
    ∙ ap (λ i. linked_from links (get_or links (get_or (cells_of links ends) i 0) 0) (ends.length - suc k)) (omega arith)

-- what is left of a chain is a chain
pub IsChain-drop : (links : List ℕ) (ends rest : Ends) (n : ℕ) → IsChain links ends → n < ends.length →
    cells_of links rest ≡ drop n (cells_of links ends) → rest.length ≡ ends.length - n → rest.end ≡ ends.end → IsChain links rest
IsChain-drop links ends rest n chain h cells rest_length rest_end = record {
  within = subst (All (λ c. c < length links)) (sym cells) (All-drop (λ c. c < length links) n (cells_of links ends) chain.within);
  ended = λ some.
      ap (λ xs. get_or xs (rest.length - 1) 0) cells
      ∙ get_or-drop n (cells_of links ends) (rest.length - 1) 0
      ∙ ap (λ i. get_or (cells_of links ends) i 0) (omega arith)
      ∙ chain.ended (omega arith)
      ∙ sym rest_end;
}

-- the first cells of a chain are a chain
pub IsChain-take : (links : List ℕ) (ends : Ends) (last n : ℕ) → IsChain links ends → 0 < n → n ≤ ends.length →
    last ≡ get_or (cells_of links ends) (n - 1) 0 → IsChain links (record { front = ends.front; end = last; length = n })
IsChain-take links ends last n chain some h is_last =
    let cells : linked_from links ends.front n ≡ take n (cells_of links ends) = sym (take-linked_from links ends.front n ends.length h) in
    record {
      within = subst (All (λ c. c < length links)) (sym cells) (All-take (λ c. c < length links) n (cells_of links ends) chain.within);
      ended = λ _.
          ap (λ xs. get_or xs (n - 1) 0) cells
          ∙ get_or-take n (cells_of links ends) (n - 1) 0 (omega arith)
          ∙ sym is_last;
    }

-- a chain whose links are as they were is as it was
pub cells_of-same : (old new : List ℕ) (ends : Ends) →
    ((cell : ℕ) → 0 < times cell (cells_of old ends) → get_or new cell 0 ≡ get_or old cell 0) →
    cells_of new ends ≡ cells_of old ends
cells_of-same old new ends same = linked_from-same old new ends.front ends.length same

pub IsChain-same : (old new : List ℕ) (ends : Ends) → IsChain old ends → length new ≡ length old →
    cells_of new ends ≡ cells_of old ends → IsChain new ends
IsChain-same old new ends chain size cells = record {
  within = let P : ℕ → List ℕ → Type 0 = λ n xs. All (λ c. c < n) xs in
      subst (λ n. P n (cells_of new ends)) (sym size) (subst (P (length old)) (sym cells) chain.within);
  ended = λ some. ap (λ xs. get_or xs (ends.length - 1) 0) cells ∙ chain.ended some;
}
