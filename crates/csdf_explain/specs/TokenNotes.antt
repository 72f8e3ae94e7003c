-- What the program tells of the token file of a source in answer to `csdf explain GRAPH DIR`.
use Rattle.std.specs.Prelude.{ℕ, ◌-◌, Bool, ◌&&◌, ◌==◌, nat_lt, if◌then◌else◌, List, [], ◌∷◌, ◌++◌, length, ℤ, Option, Some, None, Result, Ok, Err, codes, slice_get, unwrap_or}
use Rattle.csdf_bytes.specs.declared.intake.TheConstants.{INPUT_LIMIT}
use Rattle.std.specs.Fmt.{decimal}
use Rattle.std.specs.List.{list_all, list_any, slice_split}
use Rattle.std.specs.Option.{option_map_or}
use Rattle.std.specs.Str.Lines.{strip_carriage_return}
use Rattle.csdf_bytes.specs.TokenText.{is_newline, tokens_in}
use Rattle.csdf_bytes.specs.declared.tokens.TokenFault.{TokenFault}
use Rattle.csdf_bytes.specs.declared.tokens.TokenFault.TheVariants as token
use Rattle.csdf_answers.specs.declared.token_file.TokenFile.{TokenFile}
use Rattle.csdf_answers.specs.declared.token_file.TokenFile.TheVariants as found
use Rattle.csdf_answers.specs.Printed.{newline}

-- ---- a line of a token file

-- the line with this number, counted from 1, less one carriage return at its end
abbrev pub line_in : List ℕ → ℕ → List ℕ
line_in bytes number = strip_carriage_return (unwrap_or (slice_get (slice_split is_newline bytes) (number - 1)) [])

-- a space, or a character of ASCII that can be seen
abbrev pub is_visible : ℕ → Bool
is_visible byte = nat_lt 31 byte && nat_lt byte 127

-- at most 40 of these, and no others
abbrev pub is_short : List ℕ → Bool
is_short line = nat_lt (length line) 41 && list_all is_visible line

-- a line as it is shown, where it is short
abbrev pub shown : List ℕ → Option (List ℕ)
shown line = if is_short line then Some line else None

abbrev pub in_quotes : List ℕ → List ℕ
in_quotes line = codes ": \"" ++ (line ++ codes "\"")

-- a line after a colon, where it is shown
abbrev pub quoted : List ℕ → List ℕ
quoted line = option_map_or in_quotes (shown line) []

-- ---- what is wrong with a token file

-- a line of this number is wrong in this way
abbrev pub line_words : ℕ → List ℕ → List ℕ → List ℕ
line_words number wrong line = codes "whose line " ++ (decimal number ++ wrong) ++ quoted line

-- a byte 0 stands in no text
abbrev pub is_binary : List ℕ → Bool
is_binary bytes = list_any (λ byte. byte == 0) bytes

-- the line of this number is no whole number, or the file is no text at all
abbrev pub syntax_words : List ℕ → ℕ → List ℕ
syntax_words bytes number =
    if is_binary bytes then codes "which is binary, and no text" else line_words number (codes " is no whole number") (line_in bytes number)

-- what is wrong with bytes whose tokens have this fault
abbrev pub fault_words : List ℕ → TokenFault → Option (List ℕ)
fault_words bytes (token.Syntax number) = Some (syntax_words bytes number)
fault_words bytes (token.Range number) = Some (line_words number (codes " is outside -2147483648 to 2147483647") (line_in bytes number))
fault_words bytes token.TooMany = Some (codes "which has more than 1000000 tokens")
fault_words bytes token.Read = None
fault_words bytes token.Memory = None

-- what is wrong with tokens: that there are none
abbrev pub tokens_words : List ℤ → Option (List ℕ)
tokens_words [] = Some (codes "which has no tokens")
tokens_words (token ∷ tokens) = None

-- what is wrong with bytes, by their tokens
abbrev pub wrong_by : List ℕ → Result (List ℤ) TokenFault → Option (List ℕ)
wrong_by bytes (Ok tokens) = tokens_words tokens
wrong_by bytes (Err fault) = fault_words bytes fault

abbrev pub long_words : List ℕ
long_words = codes "which has more than 16777216 bytes"

-- what is wrong with the bytes of a token file
abbrev pub wrong_in : List ℕ → Option (List ℕ)
wrong_in bytes = if nat_lt INPUT_LIMIT (length bytes) then Some long_words else wrong_by bytes (tokens_in bytes)

-- what is wrong with a token file, by what was found of it; nothing where all is well
abbrev pub wrong_with : TokenFile → Option (List ℕ)
wrong_with found.Missing = Some (codes "which is missing")
wrong_with found.Folder = Some (codes "which is a folder")
wrong_with found.Special = Some (codes "which is no ordinary file, and was not looked at")
wrong_with found.Forbidden = Some (codes "which may not be read")
wrong_with found.Unread = Some (codes "which cannot be read")
wrong_with found.TooLong = Some long_words
wrong_with (found.Bytes bytes) = wrong_in bytes.items

-- ---- its line

-- what is wrong with the file of this path, which a source reads
abbrev pub note_line : List ℕ → List ℕ → List ℕ → List ℕ
note_line source path words = source ++ (codes " reads " ++ (path ++ (codes ", " ++ (words ++ newline))))

-- the line of a source by the path of its token file and by what was found there, and none where all is well
abbrev pub token_note : List ℕ → List ℕ → TokenFile → List ℕ
token_note source path file = option_map_or (note_line source path) (wrong_with file) []
