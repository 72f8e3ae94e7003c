-- What stands in a buffer between a device and a reader of lines.
use Rattle.std.specs.Prelude.{◌≡◌, ℕ, ◌++◌, List, length, Option}
use Rattle.std.specs.Io.KnownBytes.{Consumes, IsAtEnd}

-- the bytes that a buffer holds, and how many more have room behind them
pub record Held : Type 0 where
  pub bytes : List ℕ
  pub room : ℕ

-- what a reader has fetched and not read, and the number of the line that is next
pub record Unread : Type 0 where
  pub bytes : List ℕ
  pub line : ℕ

-- a call put n of the bytes that a device has left behind those held: none only at their end
pub record FetchesTo (left rest : Option (List ℕ)) (before after : List ℕ) (n : ℕ) : Type 0 where
  pub bytes : List ℕ
  pub count : length bytes ≡ n
  pub appended : after ≡ before ++ bytes
  pub taken : Consumes left rest bytes
  pub ended : n ≡ 0 → IsAtEnd rest
