-- What a pen shows: the table of links as it is now, and how many links it set.
use Rattle.std.specs.Prelude.{◌≡◌, ℕ, List}
use Rattle.std.specs.Borrow.{MutBor}
use Rattle.csdf_pool.specs.declared.pen.Pen.{Pen}

-- the table of links
abbrev pub links_of : Pen → List ℕ
links_of pen = pen.links.now

-- how many links the pen set
abbrev pub written_of : Pen → ℕ
written_of pen = pen.written

-- the pen writes the table that it borrowed at the start
abbrev pub KeepsTable : Pen → Pen → Type 0
KeepsTable old new = new.links.ghost_name ≡ old.links.ghost_name

-- the pen writes this table
abbrev pub WritesTo : Pen → MutBor (List ℕ) → Type 0
WritesTo pen table = pen.links.ghost_name ≡ table.ghost_name
