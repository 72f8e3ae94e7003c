-- The moves that a note is of.
use Rattle.std.specs.Prelude.{ℕ, zero, suc, Bool, true, false, List, [], ◌∷◌, ℤ, take, drop}
use Rattle.csdf_core.specs.Moves.{Move}
use Rattle.csdf_core.specs.Moves.{Begin, Read, Write, Finish, Close}
use Rattle.csdf_core.specs.Blocks.{firings_of}
use Rattle.csdf_core.specs.Plan.{Channel}
use Rattle.csdf_core.specs.Rows.{gift}
use Rattle.csdf_core.specs.Step.{count}
use Rattle.csdf_journal.specs.declared.firings.Firings.{Firings}
use Rattle.csdf_journal.specs.declared.note.Note.{Note}
use Rattle.csdf_journal.specs.declared.note.Note.TheVariants as note

abbrev pub noted : Note → Move
noted (note.Begin a) = Begin a
noted (note.Read a) = Read a
noted (note.Write a v) = Write a v.now
noted (note.Finish a) = Finish a
noted (note.Close c) = Close c

-- the moves of several firings
abbrev pub noted_all : Firings → List Move
noted_all f = firings_of f.core.now.plan.channels f.actor (count f.core.now.now f.actor) f.n f.tokens.now

-- how many tokens each of n firings of the actor writes, from firing number k on
abbrev pub gifts_from : List Channel → ℕ → ℕ → ℕ → List ℕ
gifts_from channels a k zero = []
gifts_from channels a k (suc n) = gift a k channels ∷ gifts_from channels a (suc k) n

abbrev pub gifts_in : Firings → List ℕ
gifts_in f = gifts_from f.core.now.plan.channels f.actor (count f.core.now.now f.actor) f.n

-- the moves of firings that write so many tokens each
abbrev pub moves_by : ℕ → List ℕ → List ℤ → List Move
moves_by a [] v = []
moves_by a (n ∷ gifts) v = Begin a ∷ Read a ∷ Write a (take n v) ∷ Finish a ∷ moves_by a gifts (drop n v)

-- the tokens that a move writes
abbrev pub tokens_in : Move → List ℤ
tokens_in (Begin a) = []
tokens_in (Read a) = []
tokens_in (Write a v) = v
tokens_in (Finish a) = []
tokens_in (Close c) = []

abbrev pub is_write : Move → Bool
is_write (Begin a) = false
is_write (Read a) = false
is_write (Write a v) = true
is_write (Finish a) = false
is_write (Close c) = false
