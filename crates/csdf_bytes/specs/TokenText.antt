-- Token text: the tokens that a text of lines holds, and the text that is written for tokens.
use Rattle.std.specs.Prelude.{ℕ, ◌+◌, ◌^◌, Bool, ◌&&◌, ◌||◌, ◌==◌, nat_lt, if◌then◌else◌, List, [], ◌∷◌, ◌++◌, length, map, reverse, take, ℤ, pos, negsuc}
use Rattle.csdf_bytes.specs.declared.intake.TheConstants.{INPUT_LIMIT}
use Rattle.csdf_bytes.specs.declared.tokens.TheConstants.{TOKEN_LIMIT}
use Rattle.std.specs.Prelude.{neg_ℤ, Result, Ok, Err}
use Rattle.std.specs.Char.{is_ascii_digit}
use Rattle.std.specs.Fmt.{signed_decimal}
use Rattle.std.specs.List.{enumerate_from, filter, flat_map, list_all, slice_split}
use Rattle.std.specs.Result.{result_map_both}
use Rattle.std.specs.Str.Lines.{strip_carriage_return}
use Rattle.std.specs.Str.Parse.{signed_digits_value, without_leading_sign}
use Rattle.csdf_bytes.specs.declared.token_word.WordFault.{WordFault}
use Rattle.csdf_bytes.specs.declared.token_word.WordFault.TheVariants.{Malformed, OutOfRange}
use Rattle.csdf_bytes.specs.declared.tokens.TokenFault.{TokenFault}
use Rattle.csdf_bytes.specs.declared.tokens.TokenFault.TheVariants.{TooMany, Syntax, Range}

-- ---- a word

-- one digit or more, and nothing else
abbrev pub is_numeral : List ℕ → Bool
is_numeral digits = nat_lt 0 (length digits) && list_all is_ascii_digit digits

-- the numbers from -2,147,483,648 to 2,147,483,647
abbrev pub is_token : ℤ → Bool
is_token (pos n) = nat_lt n (2 ^ 31)
is_token (negsuc n) = nat_lt n (2 ^ 31)

-- a number with its sign
abbrev pub signed : Bool → ℕ → ℤ
signed is_negative number = if is_negative then neg_ℤ (pos number) else pos number

-- the token that a word stands for: `+`, `-` or no sign, and then digits, whose number is in range
unfoldable pub token_in : List ℕ → Result ℤ WordFault
token_in word =
    if is_numeral (without_leading_sign word)
    then (if is_token (signed_digits_value 10 word)
    then Ok (signed_digits_value 10 word)
    else Err OutOfRange)
    else Err Malformed

-- ---- a line

-- a space or a tab
abbrev pub is_blank : ℕ → Bool
is_blank byte = (byte == 32) || (byte == 9)

-- a text without the blanks at its front
abbrev pub trim_start : List ℕ → List ℕ
trim_start [] = []
trim_start (byte ∷ bytes) = if is_blank byte then trim_start bytes else byte ∷ bytes

-- a text without the blanks at its end
abbrev pub trim_end : List ℕ → List ℕ
trim_end bytes = reverse (trim_start (reverse bytes))

-- the word of a line: the line less one carriage return at its end, and then less the blanks at
-- both ends
abbrev pub word_of : List ℕ → List ℕ
word_of line = trim_end (trim_start (strip_carriage_return line))

-- ---- a text

abbrev pub is_newline : ℕ → Bool
is_newline byte = byte == 10

-- the words of all the lines, each with the number of its line, counted from n. A line with an
-- empty word is left out, and so is what follows the last newline where nothing does.
abbrev pub words_from : ℕ → List ℕ → List (ℕ × List ℕ)
words_from n bytes =
    filter (λ entry. nat_lt 0 (length entry.1)) (enumerate_from n (map word_of (slice_split is_newline bytes)))

-- a word's fault, told at its line
abbrev pub at_line : ℕ → WordFault → TokenFault
at_line line Malformed = Syntax line
at_line line OutOfRange = Range line

-- the token of a word, or its fault at its line
abbrev pub entry_of : ℕ × List ℕ → Result ℤ TokenFault
entry_of entry = result_map_both (λ token. token) (at_line entry.0) (token_in entry.1)

-- all the tokens, or the first fault
abbrev pub collected : List (Result ℤ TokenFault) → Result (List ℤ) TokenFault
collected [] = Ok []
collected (Ok token ∷ entries) = result_map_both (λ tokens. token ∷ tokens) (λ fault. fault) (collected entries)
collected (Err fault ∷ entries) = Err fault

-- tokens of which there are no more than the limit
abbrev pub no_more_than : ℕ → Result (List ℤ) TokenFault → Result (List ℤ) TokenFault
no_more_than limit (Ok tokens) = if nat_lt limit (length tokens) then Err TooMany else Ok tokens
no_more_than limit (Err fault) = Err fault

-- the tokens of the entries, or the first fault in their order: one token more than the limit is
-- a fault where it stands, so that no entry after it counts
unfoldable pub tokens_up_to : ℕ → List (Result ℤ TokenFault) → Result (List ℤ) TokenFault
tokens_up_to limit entries = no_more_than limit (collected (take (limit + 1) entries))

-- the tokens of a text, or its first fault: 16,777,216 bytes and 1,000,000 tokens at most
abbrev pub tokens_in : List ℕ → Result (List ℤ) TokenFault
tokens_in bytes =
    if nat_lt INPUT_LIMIT (length bytes) then Err TooMany else tokens_up_to TOKEN_LIMIT (map entry_of (words_from 1 bytes))

-- ---- what is written

-- the line of a token: its decimal digits, with `-` where it is negative, and a newline
abbrev pub token_line : ℤ → List ℕ
token_line token = signed_decimal token ++ 10 ∷ []

-- the written text of tokens
abbrev pub token_text : List ℤ → List ℕ
token_text tokens = flat_map token_line tokens
