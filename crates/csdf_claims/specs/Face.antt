-- What contracts see of a board and of a place.
use Rattle.std.specs.Prelude.{◌≡◌, ◌≢◌, ℕ, ◌+◌, ◌*◌, ◌/◌, ◌<◌, List, [], length, option_to_list, slice_index_or, Option, None, Some}
use Rattle.atomic_table.specs.Seated.{TableId}
use Rattle.csdf_claims.specs.declared.rule.Track.{Track}
use Rattle.csdf_claims.specs.declared.rule.View.{View}
use Rattle.csdf_claims.specs.declared.place.Entry.{Entry}
use Rattle.csdf_claims.specs.declared.board.Lost.{Lost}
use Rattle.csdf_claims.specs.declared.board.Lost.TheVariants.{Held, Moved}
use Rattle.csdf_claims.specs.Board.{track_of, word_of}
use Rattle.csdf_claims.specs.Steps.{Seated}

-- why a claim on firing k was lost, read off the word that was found
abbrev pub LostBy : ℕ → ℕ → Lost → Type 0
LostBy k found (Held n) = found ≡ 2 * n + 1
LostBy k found (Moved n) = (found ≡ 2 * n) × (n ≢ k)

-- a board: which one it is, and how many actors it has
pub record BoardFace : Type 0 where
  pub id : TableId
  pub actors : ℕ

-- a place: of which board it is, and what it knows
pub record PlaceFace : Type 0 where
  pub board : TableId
  pub view : View

-- the entry counts the finished firings, and has the one that is held
pub record IsEntryOf (e : Entry) (t : Track) : Type 0 where
  pub finished : e.finished ≡ length t.finished
  pub held : option_to_list e.held ≡ t.held

-- the record of a place says what its view says
pub record IsRecordOf (entries : List Entry) (me : Seated) (board : TableId) : Type 0 where
  pub no_slot : me.1 ≡ []
  pub tracks : length me.0.tracks + 1 ≡ board.words
  pub entry_count : length entries ≡ length me.0.tracks
  pub each : (a : ℕ) (d : Entry) → a < length entries → IsEntryOf (slice_index_or entries a d) (track_of me.0 a)

-- of each actor below n the entries count as many finished firings as its word says
abbrev pub CountsTo : ℕ → List Entry → List ℕ → Type 0
CountsTo n entries words = (a : ℕ) (d : Entry) → a < n → (slice_index_or entries a d).finished ≡ word_of words a / 2

abbrev pub first_of_two : Option ℕ → Option ℕ → Option ℕ
first_of_two None y = y
first_of_two (Some x) y = Some x

-- the entry of two places made one
abbrev pub joined_entry : Entry → Entry → Entry
joined_entry e f = record { finished = e.finished + f.finished; held = first_of_two e.held f.held }
