-- The tokens of a stream of bytes, which are read piece by piece.
use Rattle.std.specs.Prelude.{◌≡◌, ℕ, ◌+◌, ◌≤◌, min, true, false, nat_lt, if◌then◌else◌, List, [], ◌∷◌, ◌++◌, length, map, ℤ}
use Rattle.std.specs.Prelude.{⊤, Option, None, Some, Result, Ok, Err, IfSome}
use Rattle.std.specs.List.{list_any}
use Rattle.std.specs.Option.{option_map}
use Rattle.std.specs.Result.{result_map_both}
use Rattle.csdf_bytes.specs.Buffered.{Unread}
use Rattle.csdf_bytes.specs.declared.token_reader.ReadFault.{ReadFault}
use Rattle.csdf_bytes.specs.declared.token_reader.ReadFault.TheVariants.{Syntax, Range}
use Rattle.csdf_bytes.specs.declared.token_word.WordFault.{WordFault}
use Rattle.csdf_bytes.specs.declared.token_word.WordFault.TheVariants.{Malformed, OutOfRange}
use Rattle.csdf_bytes.specs.TokenText.{is_newline, token_in, word_of, words_from}

-- ---- the entries of lines

-- the number after a line's: 18,446,744,073,709,551,615 stands for all lines from there on
abbrev pub next_line : ℕ → ℕ
next_line line = min (line + 1) 18446744073709551615

-- a word's fault, told at its line
abbrev pub line_fault : ℕ → WordFault → ReadFault
line_fault line Malformed = Syntax line
line_fault line OutOfRange = Range line

-- the token of a word, or its fault at its line
abbrev pub stream_entry_of : ℕ × List ℕ → Result ℤ ReadFault
stream_entry_of entry = result_map_both (λ token. token) (line_fault (min entry.0 18446744073709551615)) (token_in entry.1)

-- the entries of a text, whose first line has this number
unfoldable pub entries_from : ℕ → List ℕ → List (Result ℤ ReadFault)
entries_from line bytes = map stream_entry_of (words_from line bytes)

-- the entry of one line, or none where its word is empty
unfoldable pub entry_at : ℕ → List ℕ → List (Result ℤ ReadFault)
entry_at line bytes = if nat_lt 0 (length (word_of bytes)) then stream_entry_of (line, word_of bytes) ∷ [] else []

-- a text has no newline
abbrev pub IsOneLine : List ℕ → Type 0
IsOneLine bytes = list_any is_newline bytes ≡ false

-- a text has a newline
abbrev pub HasLine : List ℕ → Type 0
HasLine bytes = list_any is_newline bytes ≡ true

-- ---- what is read

-- the token of one line was appended, or none where its word is empty
pub record ReadsEntry (line : ℕ) (bytes : List ℕ) (before after : List ℤ) : Type 0 where
  pub given : List ℤ
  pub one : length given ≤ 1
  pub appended : after ≡ before ++ given
  pub entries : entry_at line bytes ≡ map Ok given

-- the tokens that were appended are those of the first lines of a text, whatever follows it: the line that is next has this number, and these bytes follow
pub record ReadsOn (line : ℕ) (bytes : List ℕ) (next : ℕ) (rest : List ℕ) (before after : List ℤ) : Type 0 where
  pub given : List ℤ
  pub appended : after ≡ before ++ given
  pub entries : (more : List ℕ) → entries_from line (bytes ++ more) ≡ map Ok given ++ entries_from next (rest ++ more)

-- the first entry of a text is this fault, whatever follows the text
abbrev pub IsFaulty : ℕ → List ℕ → ReadFault → Type 0
IsFaulty line bytes fault = (more : List ℕ) → (others : List (Result ℤ ReadFault)) × (entries_from line (bytes ++ more) ≡ Err fault ∷ others)

-- ---- a stream

-- the entries that are left of a stream, where the bytes are known that its device has left
abbrev pub entries_left : Unread → Option (List ℕ) → Option (List (Result ℤ ReadFault))
entries_left unread left = option_map (λ bytes. entries_from unread.line (unread.bytes ++ bytes)) left

-- known entries begin with these tokens, and lose them
abbrev pub Loses : Option (List (Result ℤ ReadFault)) → Option (List (Result ℤ ReadFault)) → List ℤ → Type 0
Loses None rest given = ⊤
Loses (Some entries) None given = ⊥
Loses (Some entries) (Some rest) given = entries ≡ map Ok given ++ rest

-- the tokens that were appended, no more than so many, are the first of a stream's entries, and the others are left
pub record GivesTokens (most : ℕ) (entries rest : Option (List (Result ℤ ReadFault))) (before after : List ℤ) : Type 0 where
  pub given : List ℤ
  pub few : length given ≤ most
  pub appended : after ≡ before ++ given
  pub taken : Loses entries rest given

-- this fault is the first of the known entries
abbrev pub IsNext : ReadFault → Option (List (Result ℤ ReadFault)) → Type 0
IsNext fault entries = IfSome entries (λ all. (others : List (Result ℤ ReadFault)) × (all ≡ Err fault ∷ others))
