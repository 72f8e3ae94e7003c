-- Cells that stand in a row.
use Rattle.std.specs.Prelude.{◌≡◌, ℕ, ◌+◌, ◌<◌, List, slice_index}

-- each of so many cells from one on has a link to the cell behind it in the table
abbrev pub IsRow : List ℕ → ℕ → ℕ → Type 0
IsRow links at n = (i : ℕ) → i < n → slice_index links (at + i) ≡ at + i + 1
