-- The moves of firings, without where their tokens lie in memory.
use Rattle.std.specs.Prelude.{ℕ, List, ℤ}
use Rattle.csdf_core.specs.declared.moves.Move.{Move as MoveCode}
use Rattle.csdf_core.specs.declared.moves.Move.TheVariants as code

pub data Move : Type 0 where
  Begin : ℕ → Move
  Read : ℕ → Move
  Write : ℕ → List ℤ → Move
  Finish : ℕ → Move
  Close : ℕ → Move

abbrev pub move_of : MoveCode → Move
move_of (code.Begin a) = Begin a
move_of (code.Read a) = Read a
move_of (code.Write a v) = Write a v.items
move_of (code.Finish a) = Finish a
move_of (code.Close c) = Close c
