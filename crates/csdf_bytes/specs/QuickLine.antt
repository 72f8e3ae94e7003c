-- Lines of the common form.
use Rattle.std.specs.Prelude.{◌≡◌, ℕ, ◌<◌, ◌≤◌, true, List, take, slice_index, ℤ, Some, Ok}
use Rattle.std.specs.Char.{is_ascii_digit}
use Rattle.std.specs.List.{list_all, position}
use Rattle.std.specs.Str.Parse.{digits_value}
use Rattle.csdf_bytes.specs.TokenText.{is_newline, token_in, word_of}

-- the first line of a text has this token, has no blanks, and its newline is at this place
pub record QuickLine (text : List ℕ) (token : ℤ) (end : ℕ) : Type 0 where
  pub ends : position is_newline text ≡ Some end
  pub some : 0 < end
  pub short : end ≤ 10
  pub plain : word_of (take end text) ≡ take end text
  pub read : token_in (take end text) ≡ Ok token

-- a text begins with these digits, whose number this is, and a newline
pub record QuickDigits (text : List ℕ) (number count : ℕ) : Type 0 where
  pub some : 0 < count
  pub few : count ≤ 9
  pub digits : list_all is_ascii_digit (take count text) ≡ true
  pub value : number ≡ digits_value 10 (take count text)
  pub small : number < 1000000000
  pub ended : slice_index text count ≡ 10
