-- What comes of a token file that is read and of a file that is put, and the faults that are told of them.
use Rattle.std.specs.Prelude.{◌≡◌, ◌⊎◌, ℕ, List, [], ◌∷◌, Option, Result, Err}
use Rattle.std.specs.Path.{path_join}
use Rattle.clap.specs.Words.{Text}
use Rattle.csdf_bytes.specs.declared.intake.InputFault.{InputFault}
use Rattle.csdf_bytes.specs.declared.intake.InputFault.TheVariants as input
use Rattle.csdf_answers.specs.declared.fault.DeviceName.TheVariants.{File}
use Rattle.csdf_answers.specs.declared.fault.ToolFault.{ToolFault}
use Rattle.csdf_answers.specs.declared.fault.ToolFault.TheVariants.{TooManyTokens, Device, Memory}
use Rattle.csdf_disk.specs.declared.put_fault.PutFault.{PutFault}
use Rattle.csdf_disk.specs.declared.put_fault.PutFault.TheVariants as put
use Rattle.csdf_disk.specs.Acts.{Act, Asks, Put, Read}
use Rattle.csdf_files.specs.Places.{in_file}

-- ---- token files

-- the path of the token file of a source, by its name
abbrev pub token_path : Text → List ℕ → List ℕ
token_path folder source = path_join folder (in_file source)

-- why the token file of a source was not read, as the program tells it
abbrev pub feed_fault : List ℕ → InputFault → ToolFault
feed_fault name input.Read = Device (File (in_file name))
feed_fault name input.TooLong = TooManyTokens name
feed_fault name input.Memory = Memory

-- the token file of a source was asked for, and this came of it in place of its bytes
pub record IsFeedMissing (folder name : List ℕ) (before after : Option (List Act)) (fault : ToolFault) : Type 0 where
  pub why : InputFault
  pub files : Asks before after (Read (path_join folder (in_file name)) (Err why) ∷ [])
  pub told : fault ≡ feed_fault name why

-- ---- files that are put

-- a file that is written: its folder, its name there and its text
pub record Written : Type 0 where
  pub folder : List ℕ
  pub name : List ℕ
  pub text : List ℕ

-- a file is put in its place, or this comes of it
abbrev pub put_as : Result (Unit {0}) PutFault → Written → Act
put_as came file = Put (path_join file.folder file.name) file.text came

-- why a file was not put in its place, as the program tells it
abbrev pub put_fault : List ℕ → PutFault → ToolFault
put_fault file put.Device = Device (File file)
put_fault file put.Memory = Memory

-- a file was not put: this came of it, or memory ran out before it was asked for
abbrev pub IsUnput : Written → List Act → ToolFault → Type 0
IsUnput file acts fault =
    ((acts ≡ []) × (fault ≡ Memory)) ⊎ ((why : PutFault) × (acts ≡ put_as (Err why) file ∷ []) × (fault ≡ put_fault file.name why))
