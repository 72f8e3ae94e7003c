-- The moves of a run as the table `script` of a graph file.
use Rattle.std.specs.Prelude.{ℕ, ℤ, if◌then◌else◌, List, ◌∷◌, ◌++◌, Option, Some, None, codes}
use Rattle.std.specs.List.{flat_map}
use Rattle.std.specs.Fmt.{signed_decimal}
use Rattle.csdf_model.specs.Graph.{Graph}
use Rattle.csdf_core.specs.Moves.{Move, Begin, Read, Write, Finish, Close}
use Rattle.csdf_journal.specs.View.{JournalView}
use Rattle.csdf_model.specs.Names.{actor_names, name_at}
use Rattle.csdf_floor.specs.Report.{names_of}

-- each token after a space
abbrev pub spaced_tokens : List ℤ → List ℕ
spaced_tokens tokens = flat_map (λ token. 32 ∷ signed_decimal token) tokens

-- a move as a line of a script: its verb, the name of its actor or channel, and the tokens that it writes
abbrev pub move_text : Graph → Move → List ℕ
move_text g (Begin a) = codes "begin " ++ name_at (actor_names g.actors) a
move_text g (Read a) = codes "read " ++ name_at (actor_names g.actors) a
move_text g (Write a v) = codes "write " ++ name_at (actor_names g.actors) a ++ spaced_tokens v
move_text g (Finish a) = codes "finish " ++ name_at (actor_names g.actors) a
move_text g (Close c) = codes "close " ++ name_at (names_of g.channels) c

-- the line as a string of the list `moves`, on a line of its own
abbrev pub move_entry : Graph → Move → List ℕ
move_entry g m = codes "  \"" ++ move_text g m ++ codes "\",\n"

abbrev pub move_entries : Graph → List Move → List ℕ
move_entries g moves = flat_map (move_entry g) moves

-- the table `script` with these moves
abbrev pub script_text : Graph → List Move → List ℕ
script_text g moves = codes "[script]\nmoves = [\n" ++ move_entries g moves ++ codes "]\n"

-- the same with the moves of a journal, where it keeps them
abbrev pub kept_script : Graph → JournalView → Option (List ℕ)
kept_script g j = if j.keeps then Some (script_text g j.moves) else None
