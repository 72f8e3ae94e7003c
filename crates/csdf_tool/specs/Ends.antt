-- How the program ends: its exit status, and the line beside it on standard error.
use Rattle.std.specs.Prelude.{◌≡◌, ◌⊎◌, ℕ, List, [], Bool, true, Option, Result, IfErr, OnOk}
use Rattle.std.specs.Io.KnownBytes.{Appends}
use Rattle.clap.specs.Words.{Kinds, Text, IsAmong, fault_of, kind_of, takes}
use Rattle.clap.specs.declared.error.kind.ErrorKind.{ErrorKind}
use Rattle.clap.specs.declared.error.kind.ErrorKind.TheVariants.{DisplayHelp, DisplayVersion, OutOfMemory}
use Rattle.csdf_answers.specs.declared.fault.ToolFault.{ToolFault}
use Rattle.csdf_answers.specs.declared.fault.Lack.{Lack}
use Rattle.csdf_answers.specs.declared.fault.ToolFault.TheVariants.{Device, InUse, Lacks, Memory}
use Rattle.csdf_answers.specs.declared.fault.DeviceName.TheVariants.{Output}
use Rattle.csdf_answers.specs.declared.question.Form.{Form}
use Rattle.csdf_answers.specs.declared.question.Form.TheVariants as forms
use Rattle.csdf_answers.specs.Faults.{status_of}
use Rattle.csdf_answers.specs.Objects.{TellsFault}
use Rattle.csdf_words.specs.CommandLine.{program, IsUnread}
use Rattle.csdf_told.specs.Refused.{lengths_refusal, out_refusal, room_refusal, workers_refusal}
use Rattle.csdf_words.specs.declared.command.Unread.{Unread}
use Rattle.csdf_words.specs.declared.command.Unread.TheVariants as unread

-- the form in which a fault is told: one of the command line in words
abbrev pub told_in : Form → ToolFault → Form
told_in form (InUse name) = forms.Text
told_in form (Lacks lack) = forms.Text
told_in form _ = form

-- a text that tells the fault in a form was put at the end of what a device has taken, where that is known, or the device failed
abbrev pub TellsLine : Form → ToolFault → Option (List ℕ) → Option (List ℕ) → Bool → Type 0
TellsLine form fault before after failed = ((line : List ℕ) × TellsFault (told_in form fault) fault line × Appends before after line) ⊎ (failed ≡ true)

-- the status is the fault's, and it is told in this form
pub record EndsAs (form : Form) (fault : ToolFault) (status : ℕ) (before after : Option (List ℕ)) (failed : Bool) : Type 0 where
  pub ends : status ≡ status_of fault
  pub line : TellsLine form fault before after failed

-- the same, or the end is that of want of memory
abbrev pub EndsBy : Form → ToolFault → ℕ → Option (List ℕ) → Option (List ℕ) → Bool → Type 0
EndsBy form fault status before after failed = EndsAs form fault status before after failed ⊎ EndsAs form Memory status before after failed

-- the end of an answer: status 0, or that of its fault
pub record Ended (form : Form) (answer : Result (Unit {0}) ToolFault) (status : ℕ) (before after : Option (List ℕ)) (failed : Bool) : Type 0 where
  pub zero : OnOk answer (status ≡ 0)
  pub by : IfErr answer (λ fault. EndsBy form fault status before after failed)

-- the status is the fault's, and it is told in this form, or where the status is 3 by its line
abbrev pub EndsInForm : Form → ToolFault → ℕ → Option (List ℕ) → Option (List ℕ) → Bool → Type 0
EndsInForm form fault status before after failed =
    EndsAs form fault status before after failed ⊎ ((status ≡ 3) × EndsAs forms.Text fault status before after failed)

-- the fault is told in this form, or want of memory is: for the line, or where memory ran out before the words were read, by its line
abbrev pub EndsTelling : Form → ToolFault → ℕ → Option (List ℕ) → Option (List ℕ) → Bool → Type 0
EndsTelling form fault status before after failed =
    EndsBy form fault status before after failed ⊎ EndsAs forms.Text Memory status before after failed

-- a file that was to be written is in use
abbrev pub EndsInUse : Form → ℕ → Option (List ℕ) → Option (List ℕ) → Bool → Type 0
EndsInUse form status before after failed = (name : List ℕ) × EndsAs form (InUse name) status before after failed

-- the words lack something for the graph
abbrev pub EndsLacking : Form → ℕ → Option (List ℕ) → Option (List ℕ) → Bool → Type 0
EndsLacking form status before after failed = (lack : Lack) × EndsAs form (Lacks lack) status before after failed

-- ---- words that are refused

-- how the program ends: its status, what standard error had taken before and after, whether it failed, and whether standard output did
pub record Ending : Type 0 where
  pub status : ℕ
  pub before : Option (List ℕ)
  pub after : Option (List ℕ)
  pub failed : Bool
  pub unwritten : Bool

abbrev pub ending : ℕ → Option (List ℕ) → Option (List ℕ) → Bool → Bool → Ending
ending status before after failed unwritten =
    record { status = status; before = before; after = after; failed = failed; unwritten = unwritten }

-- with this fault and its line
abbrev pub EndsTold : Ending → ToolFault → Type 0
EndsTold e fault = EndsAs forms.Text fault e.status e.before e.after e.failed

-- how help and the version end: they are written, or memory ran out, or standard output failed
abbrev pub EndsHelp : Ending → Type 0
EndsHelp e = (e.status ≡ 0) ⊎ (EndsTold e Memory ⊎ ((e.unwritten ≡ true) × EndsTold e (Device Output)))

-- how words that are refused for this reason end: no others are answered
abbrev pub EndsFor : ErrorKind → Ending → Type 0
EndsFor DisplayHelp e = EndsHelp e
EndsFor DisplayVersion e = EndsHelp e
EndsFor OutOfMemory e = EndsTold e Memory
EndsFor _ e = e.status ≡ 2

-- the same for one of these reasons, unless memory ran out
abbrev pub EndsForOneOf : Kinds → Ending → Type 0
EndsForOneOf kinds e = EndsTold e Memory ⊎ ((kind : ErrorKind) × IsAmong kind kinds × EndsFor kind e)

-- the status is that of refused words, and standard error has this text, or failed
pub record EndsRefused (text : List ℕ) (e : Ending) : Type 0 where
  pub status : e.status ≡ 2
  pub told : Appends e.before e.after text ⊎ (e.failed ≡ true)

-- how words that are no request end
abbrev pub EndsUnread : Unread → Ending → Type 0
EndsUnread (unread.Parse error) e = EndsFor (kind_of error) e
EndsUnread (unread.Room text) e = EndsRefused (room_refusal text.now) e
EndsUnread (unread.Workers text) e = EndsRefused (workers_refusal text.now) e
EndsUnread unread.Lengths e = EndsRefused lengths_refusal e
EndsUnread unread.OutAlone e = EndsRefused out_refusal e

-- how words that ask for nothing end: there is a reason why they are no request, and it is told
pub record EndsUnasked (words : List Text) (e : Ending) : Type 0 where
  pub why : Unread
  pub unread : IsUnread words why
  pub ends : EndsUnread why e

-- the parser takes the words: by its test, or since no reason is among those that it may refuse them for
abbrev pub AreTaken : List Text → Type 0
AreTaken words = (takes program words ≡ true) ⊎ (fault_of program words ≡ [])
