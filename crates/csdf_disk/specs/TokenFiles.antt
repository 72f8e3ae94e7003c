-- What is found of a token file, by what the system answers.
use Rattle.std.specs.Prelude.{◌≡◌, ◌<◌, ℕ, List, [], ◌∷◌, Option, Some, None, IfOk, IfSome, Result, Ok, Err, length}
use Rattle.csdf_bytes.specs.declared.intake.TheConstants.{INPUT_LIMIT}
use Rattle.std.specs.Fs.{IsDir, IsFile, file_type}
use Rattle.std.specs.declared.fs.attrs.FileType.{FileType}
use Rattle.std.specs.declared.fs.attrs.Metadata.{Metadata}
use Rattle.std.specs.declared.io.Error.{Error}
use Rattle.std.specs.IoError.{error_kind}
use Rattle.std.specs.declared.io.ErrorKind.{ErrorKind}
use Rattle.std.specs.declared.io.ErrorKind.TheVariants as kind
use Rattle.csdf_disk.specs.SystemCalls.{Call, Called, Follow, Open}
use Rattle.csdf_answers.specs.declared.fault.ToolFault.{ToolFault}
use Rattle.csdf_answers.specs.declared.fault.ToolFault.TheVariants as fault
use Rattle.csdf_answers.specs.declared.token_file.TokenFile.{TokenFile}
use Rattle.csdf_answers.specs.declared.token_file.TokenFile.TheVariants.{Missing, Folder, Special, Forbidden, Unread, TooLong, Bytes}

-- what an error says of the file: want of memory says nothing of it
abbrev pub unopened : ErrorKind → Result TokenFile ToolFault
unopened kind.NotFound = Ok Missing
unopened kind.NotADirectory = Ok Missing
unopened kind.PermissionDenied = Ok Forbidden
unopened kind.OutOfMemory = Err fault.Memory
unopened _ = Ok Unread

-- the file is what is left of a device, where that is known: its bytes, or more than may be
abbrev pub IsReadOf : Option (List ℕ) → TokenFile → Type 0
IsReadOf left (Bytes bytes) = IfSome left (λ all. bytes.items ≡ all)
IsReadOf left TooLong = IfSome left (λ all. INPUT_LIMIT < length all)
IsReadOf left Unread = Unit {0}
IsReadOf left Missing = ⊥
IsReadOf left Folder = ⊥
IsReadOf left Special = ⊥
IsReadOf left Forbidden = ⊥

-- ---- calls

-- what is found where a file was to be opened: what its error says, or what is read of it
abbrev pub IsOpenedAs : Option ErrorKind → Result TokenFile ToolFault → Type 0
IsOpenedAs (Some why) result = result ≡ unopened why
IsOpenedAs None result = IfOk result (IsReadOf None)

-- what is found of a file of this kind, and what is called for it: a plain file alone is opened
pub record IsFoundOf (path : List ℕ) (kind : FileType) (calls : List Call) (result : Result TokenFile ToolFault) : Type 0 where
  pub folder : IsDir kind → (calls ≡ []) × (result ≡ Ok Folder)
  pub special : (IsDir kind → ⊥) → (IsFile kind → ⊥) → (calls ≡ []) × (result ≡ Ok Special)
  pub plain : IsFile kind → (why : Option ErrorKind) × (calls ≡ Open path why ∷ []) × IsOpenedAs why result

-- what is found where the system told this
abbrev pub IsFoundBy : List ℕ → Result Metadata Error → List Call → Result TokenFile ToolFault → Type 0
IsFoundBy path (Ok told) calls result = IsFoundOf path (file_type told) calls result
IsFoundBy path (Err error) calls result = (calls ≡ []) × (result ≡ unopened (error_kind error))

-- a token file is looked at, at the end of the links at its path
pub record Looks (path : List ℕ) (before after : Option (List Call)) (result : Result TokenFile ToolFault) : Type 0 where
  pub told : Result Metadata Error
  pub calls : List Call
  pub found : IsFoundBy path told calls result
  pub called : Called before after (Follow path told ∷ calls)
