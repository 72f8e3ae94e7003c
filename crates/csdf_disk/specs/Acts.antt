-- What is asked of files, and what comes of it.
use Rattle.std.specs.Prelude.{◌≡◌, ◌++◌, ℕ, Bool, List, Option, Some, None, Result, Ok, Err, IfSome}
use Rattle.std.specs.List.{AllByRecursion}
use Rattle.std.specs.Global.{Vec}
use Rattle.std.specs.declared.alloc.AllocError.{AllocError}
use Rattle.clap.specs.Words.{Text}
use Rattle.csdf_bytes.specs.declared.intake.InputFault.{InputFault}
use Rattle.csdf_answers.specs.declared.fault.ToolFault.{ToolFault}
use Rattle.csdf_answers.specs.declared.token_file.TokenFile.{TokenFile}
use Rattle.csdf_disk.specs.declared.place.FilePlace.{FilePlace}
use Rattle.csdf_disk.specs.declared.put_fault.PutFault.{PutFault}

-- a file was asked for, by its path, and these bytes came or none for this reason; it was looked at, and this was found, where memory sufficed; it was looked for which file a path stands
-- for, and this place was found, where memory sufficed; or a text was to be put in the place of a file, and was or not; a file was to be opened to be read, and was or not; one that is to be
-- written was to be made for this path, and was or not; one that was made for it, of which this is what it had taken, was to be put in its place, and was or not; or it was given up; or it was
-- asked whether standard input is a terminal, and this came
pub data Act : Type 0 where
  Read : Text → Result (List ℕ) InputFault → Act
  Look : Text → Option TokenFile → Act
  Locate : Text → Option FilePlace → Act
  Put : Text → List ℕ → Result (Unit {0}) PutFault → Act
  Open : Text → Bool → Act
  Make : Text → Result (Unit {0}) PutFault → Act
  Keep : Text → Option (List ℕ) → Result (Unit {0}) PutFault → Act
  Leave : Text → Act
  Terminal : Bool → Act

-- the bytes that came
abbrev pub given : Result (Vec ℕ) InputFault → Result (List ℕ) InputFault
given (Ok bytes) = Ok bytes.items
given (Err why) = Err why

-- these came after what was asked for before, where that is known
abbrev pub Asks : Option (List Act) → Option (List Act) → List Act → Type 0
Asks before after acts = IfSome before (λ done. after ≡ Some (done ++ acts))

-- what was found, where memory sufficed
abbrev pub found : Result TokenFile ToolFault → Option TokenFile
found (Ok file) = Some file
found (Err why) = None

-- the place that was found, where memory sufficed
abbrev pub placed : Result FilePlace AllocError → Option FilePlace
placed (Ok place) = Some place
placed (Err why) = None

-- whether a file was made, and why not
abbrev pub made_as : {F : Type 0} → Result F PutFault → Result (Unit {0}) PutFault
made_as (Ok file) = Ok tt
made_as (Err why) = Err why

-- no file was to be written
abbrev pub IsRead : Act → Type 0
IsRead (Read path came) = Unit {0}
IsRead (Look path found) = Unit {0}
IsRead (Locate path found) = Unit {0}
IsRead (Put path text came) = ⊥
IsRead (Open path opened) = Unit {0}
IsRead (Make path made) = ⊥
IsRead (Keep path written came) = ⊥
IsRead (Leave path) = ⊥
IsRead (Terminal is) = Unit {0}

-- files were asked for, opened or looked at, and none was to be written
abbrev pub OnlyReads : Option (List Act) → Option (List Act) → Type 0
OnlyReads before after = (acts : List Act) × AllByRecursion IsRead acts × Asks before after acts

-- what the devices gave: what is left of standard input, where that is known, and what was asked of files before a command and after it
pub record Devices : Type 0 where
  pub left : Option (List ℕ)
  pub before : Option (List Act)
  pub after : Option (List Act)

abbrev pub devices : Option (List ℕ) → Option (List Act) → Option (List Act) → Devices
devices left before after = record { left = left; before = before; after = after }

-- the marks of standard input and standard output after a command: whether each has failed
pub record Marks : Type 0 where
  pub input : Bool
  pub output : Bool

abbrev pub marks : Bool → Bool → Marks
marks input output = record { input = input; output = output }
