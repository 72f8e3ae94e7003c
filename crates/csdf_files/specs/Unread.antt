-- A graph file that cannot be read: what was found at its path then, and what is told of it.
use Rattle.std.specs.Prelude.{◌≡◌, ◌⊎◌, ℕ, List, [], ◌∷◌, ◌++◌, Bool, true, false, Option, Some, None, codes}
use Rattle.clap.specs.Words.{Text}
use Rattle.csdf_answers.specs.Faults.{fault_text}
use Rattle.csdf_answers.specs.Printed.{newline}
use Rattle.csdf_explain.specs.TokenNotes.{token_note}
use Rattle.csdf_answers.specs.declared.fault.DeviceName.TheVariants.{File, Output}
use Rattle.csdf_answers.specs.declared.fault.ToolFault.{ToolFault}
use Rattle.csdf_answers.specs.declared.fault.ToolFault.TheVariants.{Device}
use Rattle.csdf_answers.specs.declared.token_file.TokenFile.{TokenFile}
use Rattle.csdf_answers.specs.declared.token_file.TokenFile.TheVariants as found
use Rattle.csdf_disk.specs.Acts.{Act, Asks, Look}

-- whether a fault is that a file cannot be read
abbrev pub is_of_file : ToolFault → Bool
is_of_file (Device (File name)) = true
is_of_file _ = false

-- what is told of a file that was not read, by what was found of it then; nothing of one that can be read by then
abbrev pub why_unread : TokenFile → Option TokenFile
why_unread found.Missing = Some found.Missing
why_unread found.Folder = Some found.Folder
why_unread found.Forbidden = Some found.Forbidden
why_unread found.Special = Some found.Unread
why_unread found.Unread = Some found.Unread
why_unread found.TooLong = None
why_unread (found.Bytes bytes) = None

-- the line of the fault that a file cannot be read, and behind it why, as of a token file
abbrev pub unread_text : Text → TokenFile → List ℕ
unread_text path why = fault_text (Device (File path)) ++ newline ++ token_note (codes "csdf") path why

-- a path was looked at, and what was found tells this
abbrev pub FindsThen : Text → Option (List Act) → Option (List Act) → Option TokenFile → Type 0
FindsThen path before after why = (file : TokenFile) × Asks before after (Look path (Some file) ∷ []) × (why_unread file ≡ why)

-- why nothing was told of a file that has this fault: what was found tells nothing, and the fault stays; or standard output failed
abbrev pub LacksWhy : Text → Option (List Act) → Option (List Act) → ToolFault → Bool → ToolFault → Type 0
LacksWhy path before after fault failed told =
    (FindsThen path before after None × (told ≡ fault))
    ⊎ ((why : TokenFile) × FindsThen path before after (Some why) × (told ≡ Device Output) × (failed ≡ true))
