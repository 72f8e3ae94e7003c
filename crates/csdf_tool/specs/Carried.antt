-- What comes of what is asked for.
use Rattle.std.specs.Prelude.{◌≡◌, ◌⊎◌, ℕ, List, Option, Some, None, Bool, true, false, Result, Ok, Err, codes, ◌++◌, is_none}
use Rattle.std.specs.Io.KnownBytes.{Appends}
use Rattle.clap.specs.Words.{Text}
use Rattle.csdf_answers.specs.Objects.{IsDescriptionAs}
use Rattle.csdf_answers.specs.Session.{IsAnswer}
use Rattle.csdf_answers.specs.declared.fault.ToolFault.{ToolFault}
use Rattle.csdf_answers.specs.declared.fault.ToolFault.TheVariants.{Device}
use Rattle.csdf_answers.specs.declared.fault.DeviceName.TheVariants.{File, Output}
use Rattle.csdf_words.specs.CommandLine.{Asked, Input, Moves, Ask, Explain, Run, Flow}
use Rattle.csdf_disk.specs.Acts.{Act, Asks, Devices, Marks}
use Rattle.csdf_answers.specs.declared.token_file.TokenFile.{TokenFile}
use Rattle.csdf_tool.specs.Explaining.{Explains, IsExplanation, IsUnreadAs}
use Rattle.csdf_files.specs.Unread.{is_of_file}
use Rattle.csdf_files.specs.GraphFiles.{IsGivenBy, IsNamed, IsNotGiven, graph_reads, is_input}
use Rattle.csdf_flows.specs.Flows.{Standard, StopsStream, Streams, Through, reads_graph}
use Rattle.csdf_run_files.specs.Running.{EndsOnFiles, RunsOnFiles}

-- bytes that a word names have an answer by a command, and it was put at the end of what a device has taken, where that is known
abbrev pub PutsOut : (List ℕ → Result (List ℕ) ToolFault → Type 0) → Text → Devices → Option (List ℕ) → Option (List ℕ) → Type 0
PutsOut IsAnswerTo word d before after =
    (bytes : List ℕ) × (text : List ℕ) × IsGivenBy word d bytes × IsAnswerTo bytes (Ok text) × Appends before after text

-- what is asked for is put out: of standard input, or of what a word names; what a stream puts out is told below
abbrev pub IsCarriedOut : Asked → Devices → Option (List ℕ) → Option (List ℕ) → Type 0
IsCarriedOut Input d before after = PutsOut IsAnswer (codes "-") d before after
IsCarriedOut (Moves path) d before after = PutsOut IsAnswer path d before after
IsCarriedOut (Ask question form room path) d before after = PutsOut (IsDescriptionAs form question room) path d before after
IsCarriedOut (Explain path folder) d before after = Explains path folder d before after
IsCarriedOut (Run order) d before after = RunsOnFiles order d before after
IsCarriedOut (Flow order) d before after = Unit {0}

-- a stream that is asked for is put out
abbrev pub IsStreamedOut : Asked → Devices → Standard → Type 0
IsStreamedOut (Flow order) d s = Streams order d s
IsStreamedOut _ d s = Unit {0}

-- ---- why it is not

-- these bytes have this fault by a command; or they have an answer, and standard output failed
abbrev pub IsUnanswered : (List ℕ → Result (List ℕ) ToolFault → Type 0) → List ℕ → Marks → ToolFault → Type 0
IsUnanswered IsAnswerTo bytes m fault =
    IsAnswerTo bytes (Err fault) ⊎ ((text : List ℕ) × IsAnswerTo bytes (Ok text) × (fault ≡ Device Output) × (m.output ≡ true))

-- why a command has no answer: no bytes came of what the word names, or memory ran out; or the bytes that came have none, and nothing else was asked of files
abbrev pub LacksAnswer : (List ℕ → Result (List ℕ) ToolFault → Type 0) → Text → Devices → Marks → ToolFault → Type 0
LacksAnswer IsAnswerTo word d m fault =
    IsNotGiven word d m.input fault ⊎ ((bytes : List ℕ) × IsGivenBy word d bytes × IsUnanswered IsAnswerTo bytes m fault)

-- there is an explanation of the bytes that a word names, and standard output failed
pub record IsUnexplained (word : Text) (folder : Option Text) (d : Devices) (m : Marks) (fault : ToolFault) : Type 0 where
  pub bytes : List ℕ
  pub looks : List Act
  pub text : List ℕ
  pub named : IsNamed word d.left bytes
  pub explanation : IsExplanation folder bytes looks text
  pub files : Asks d.before d.after (graph_reads word bytes ++ looks)
  pub told : fault ≡ Device Output
  pub failed : m.output ≡ true

-- the file that a word names could not be read: nothing is found that tells why, and its fault is told; or standard output failed for what there is to tell
abbrev pub IsUntold : Text → Devices → Marks → ToolFault → Type 0
IsUntold word d m fault =
    (IsUnreadAs word d None × (fault ≡ Device (File word)))
    ⊎ ((why : TokenFile) × IsUnreadAs word d (Some why) × (fault ≡ Device Output) × (m.output ≡ true))

-- why there is no explanation: no fault of the file is a cause, nor that it cannot be read where what is found at its path tells why
abbrev pub LacksExplanation : Text → Option Text → Devices → Marks → ToolFault → Type 0
LacksExplanation word folder d m fault =
    (IsNotGiven word d m.input fault × (is_of_file fault ≡ false)) ⊎ (IsUnexplained word folder d m fault ⊎ IsUntold word d m fault)

-- why what is asked for is not put out, as the fault tells it
abbrev pub IsCauseOf : Asked → Devices → Through → Marks → ToolFault → Type 0
IsCauseOf Input d t m fault = LacksAnswer IsAnswer (codes "-") d m fault
IsCauseOf (Moves path) d t m fault = LacksAnswer IsAnswer path d m fault
IsCauseOf (Ask question form room path) d t m fault = LacksAnswer (IsDescriptionAs form question room) path d m fault
IsCauseOf (Explain path folder) d t m fault = LacksExplanation path folder d m fault
IsCauseOf (Run order) d t m fault = EndsOnFiles order d m fault
IsCauseOf (Flow order) d t m fault = StopsStream order d t m fault

-- whether what is asked for is asked of standard input
abbrev pub reads_input : Asked → Bool
reads_input Input = true
reads_input (Moves path) = is_input path
reads_input (Ask question form room path) = is_input path
reads_input (Explain path folder) = is_input path
reads_input (Run order) = is_input order.graph
reads_input (Flow order) = reads_graph order

-- whether it is a stream
abbrev pub asks_stream : Asked → Bool
asks_stream (Flow order) = true
asks_stream _ = false

-- whether it is a run or a stream
abbrev pub asks_files : Asked → Bool
asks_files (Run order) = true
asks_files asks = asks_stream asks

-- whether it writes to standard output as it goes: a stream over no folders
abbrev pub flows_out : Asked → Bool
flows_out (Flow order) = is_none order.folders
flows_out _ = false

abbrev pub flows_asked : Option Asked → Bool
flows_asked None = false
flows_asked (Some asks) = flows_out asks
