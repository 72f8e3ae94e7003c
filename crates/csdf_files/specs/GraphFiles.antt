-- What the word for a graph file names: standard input where it is `-`, and else a file.
use Rattle.std.specs.Prelude.{◌≡◌, ◌⊎◌, ◌<◌, ℕ, List, [], ◌∷◌, Bool, true, Option, Ok, Err, IfSome, codes, if◌then◌else◌, length}
use Rattle.csdf_bytes.specs.declared.intake.TheConstants.{INPUT_LIMIT}
use Rattle.std.specs.Str.{bytes_eq}
use Rattle.clap.specs.Words.{Text}
use Rattle.csdf_bytes.specs.declared.intake.InputFault.{InputFault}
use Rattle.csdf_bytes.specs.declared.intake.InputFault.TheVariants as input
use Rattle.csdf_answers.specs.Faults.{unread}
use Rattle.csdf_answers.specs.declared.fault.DeviceName.{DeviceName}
use Rattle.csdf_answers.specs.declared.fault.DeviceName.TheVariants.{Input, File}
use Rattle.csdf_answers.specs.declared.fault.ToolFault.{ToolFault}
use Rattle.csdf_answers.specs.declared.fault.ToolFault.TheVariants.{Memory}
use Rattle.csdf_disk.specs.Acts.{Act, Asks, Devices, Read}

-- whether a word names standard input
abbrev pub is_input : Text → Bool
is_input word = bytes_eq word (codes "-")

-- these are bytes that a word names: all that is left of standard input, where that is known, and else of the file that is asked for
abbrev pub IsNamed : Text → Option (List ℕ) → List ℕ → Type 0
IsNamed word left bytes = is_input word ≡ true → IfSome left (λ all. bytes ≡ all)

-- what is asked of files to have the bytes that a word names
abbrev pub graph_reads : Text → List ℕ → List Act
graph_reads word bytes = if is_input word then [] else Read word (Ok bytes) ∷ []

-- these bytes are what a word names, and nothing else was asked of files
pub record IsGivenBy (word : Text) (d : Devices) (bytes : List ℕ) : Type 0 where
  pub named : IsNamed word d.left bytes
  pub files : Asks d.before d.after (graph_reads word bytes)

-- ---- why there are none

-- the stream that a word names
abbrev pub stream_of : Text → DeviceName
stream_of word = if is_input word then Input else File word

-- why standard input was not read: it has failed, or what is left of it, where that is known, is too long
abbrev pub IsInputFault : Option (List ℕ) → Bool → InputFault → Type 0
IsInputFault left failed input.Read = failed ≡ true
IsInputFault left failed input.TooLong = IfSome left (λ all. INPUT_LIMIT < length all)
IsInputFault left failed input.Memory = Unit {0}

-- what is asked of files where no bytes come, for this reason
abbrev pub graph_misses : Text → InputFault → List Act
graph_misses word why = if is_input word then [] else Read word (Err why) ∷ []

-- why no bytes came of what a word names, and what was asked of files: that file alone
pub record IsMissing (word : Text) (d : Devices) (failed : Bool) (why : InputFault) : Type 0 where
  pub input : is_input word ≡ true → IsInputFault d.left failed why
  pub files : Asks d.before d.after (graph_misses word why)

-- the fault tells why, of the stream that the word names; or memory ran out
abbrev pub IsNotGiven : Text → Devices → Bool → ToolFault → Type 0
IsNotGiven word d failed fault = (fault ≡ Memory) ⊎ ((why : InputFault) × IsMissing word d failed why × (fault ≡ unread (stream_of word) why))
