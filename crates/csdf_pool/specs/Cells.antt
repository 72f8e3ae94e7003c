-- Lists of cells: how often a cell stands in one.
use Rattle.std.specs.Prelude.{ℕ, ◌+◌, ◌≤◌, List, [], ◌∷◌, ◌==◌, if◌then◌else◌}

-- how often the cell stands in the list
abbrev pub times : ℕ → List ℕ → ℕ
times cell [] = 0
times cell (first ∷ rest) = (if first == cell then 1 else 0) + times cell rest

-- no cell stands twice in the list
abbrev pub EachOnce : List ℕ → Type 0
EachOnce cells = (cell : ℕ) → times cell cells ≤ 1
