-- What a journal shows.
use Rattle.std.specs.Prelude.{ℕ, ◌≡◌, ◌^◌, ℤ, Bool, true, false, List, []}
use Rattle.csdf_core.specs.Moves.{Move}
use Rattle.csdf_journal.specs.declared.keeping.Keeping.{Keeping}
use Rattle.csdf_journal.specs.declared.keeping.Keeping.TheVariants.{Kept, NotKept}

-- the moves that were made, whether they are kept, for how many more there is room, and for how many tokens of the next one
pub record JournalView : Type 0 where
  pub moves : List Move
  pub keeps : Bool
  pub room : ℕ
  pub width : ℕ

abbrev pub is_kept : Keeping → Bool
is_kept Kept = true
is_kept NotKept = false

-- what can be read of the moves: all where they are kept, none where they are not
abbrev pub told : Bool → List Move → List Move
told true moves = moves
told false moves = []

-- the room where moves are kept; where they are not, there is always room, for more than can be asked for
abbrev pub room_where : Bool → ℕ → ℕ
room_where true room = room
room_where false room = 2 ^ 64

-- what a journal has as data is what it tells, and its spare list is empty
pub record IsJournal (keeps : Bool) (moves kept : List Move) (spare : List ℤ) : Type 0 where
  pub tells : kept ≡ told keeps moves
  pub spare_is_empty : spare ≡ []
