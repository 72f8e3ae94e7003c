-- An explanation of a graph file, and with a folder of the token files of its sources.
use Rattle.std.specs.Prelude.{◌≡◌, ◌⊎◌, ℕ, List, [], ◌∷◌, ◌++◌, true, false, Option, Some, None, Result, Ok, Err, MatchResult, if◌then◌else◌, map}
use Rattle.std.specs.List.{flat_map}
use Rattle.clap.specs.Words.{Text}
use Rattle.csdf_model.specs.Graph.{Actor, Graph}
use Rattle.csdf_graph.specs.GraphText.{IsGraphOf}
use Rattle.csdf_graph.specs.declared.fault.GraphFault.{GraphFault}
use Rattle.csdf_core.specs.Planned.{is_source_kernel}
use Rattle.csdf_bytes.specs.declared.intake.InputFault.TheVariants as input
use Rattle.csdf_explain.specs.Explained.{IsExplained}
use Rattle.csdf_explain.specs.TokenNotes.{token_note}
use Rattle.csdf_answers.specs.declared.token_file.TokenFile.{TokenFile}
use Rattle.std.specs.Io.KnownBytes.{Appends}
use Rattle.csdf_disk.specs.Acts.{Act, Asks, Devices, Look, Read}
use Rattle.csdf_files.specs.Files.{token_path}
use Rattle.csdf_files.specs.GraphFiles.{IsNamed, graph_reads, is_input}
use Rattle.csdf_files.specs.Unread.{unread_text, why_unread}

-- ---- token files

-- a source by its name, and what was found of its token file
pub record Looked : Type 0 where
  pub source : List ℕ
  pub file : TokenFile

-- its token file was looked at
abbrev pub look_of : Text → Looked → Act
look_of folder l = Look (token_path folder l.source) (Some l.file)

-- its line
abbrev pub note_of : Text → Looked → List ℕ
note_of folder l = token_note l.source (token_path folder l.source) l.file

-- the names of the sources, in file order
abbrev pub source_names : List Actor → List (List ℕ)
source_names [] = []
source_names (actor ∷ actors) = if is_source_kernel actor.kernel then actor.name ∷ source_names actors else source_names actors

-- where an actor is a source, its token file was looked at, and its line stands behind the others; else nothing was done
pub record IsNotedAfter (folder : Text) (actor : Actor) (before after : Option (List Act)) (text more : List ℕ) : Type 0 where
  pub source : is_source_kernel actor.kernel ≡ true
      → (l : Looked) × (l.source ≡ actor.name) × (more ≡ text ++ note_of folder l) × Asks before after (look_of folder l ∷ [])
  pub other : is_source_kernel actor.kernel ≡ false → (more ≡ text) × (after ≡ before)

-- these are all sources in file order, and the text has the line of each
pub record AreNotes (folder : Text) (actors : List Actor) (all : List Looked) (text : List ℕ) : Type 0 where
  pub sources : map (λ (l : Looked). l.source) all ≡ source_names actors
  pub lines : text ≡ flat_map (note_of folder) all

-- these are the lines on the token files of a graph file; where its graph is refused there are none
abbrev pub AreNotesOf : Text → List ℕ → List Looked → List ℕ → Type 0
AreNotesOf folder bytes all text =
    (graph : Result Graph GraphFault) × IsGraphOf bytes graph
    × MatchResult graph (λ g. AreNotes folder g.actors all text) (λ fault. (all ≡ []) × (text ≡ []))

-- ---- explanations

-- an answer to `csdf explain`, with a folder and without: after the explanation of the graph file come the lines on the token files, which were looked at
abbrev pub IsExplanation : Option Text → List ℕ → List Act → List ℕ → Type 0
IsExplanation None bytes acts text = IsExplained bytes (Ok text) × (acts ≡ [])
IsExplanation (Some folder) bytes acts text =
    (all : List Looked) × (first : List ℕ) × (notes : List ℕ) × IsExplained bytes (Ok first) × AreNotesOf folder bytes all notes
    × (text ≡ first ++ notes) × (acts ≡ map (look_of folder) all)

-- an explanation of the bytes that a word names was written, and no file was asked for or looked at but those
pub record ExplainsFiles (word : Text) (folder : Option Text) (d : Devices) (before after : Option (List ℕ)) : Type 0 where
  pub bytes : List ℕ
  pub looks : List Act
  pub text : List ℕ
  pub named : IsNamed word d.left bytes
  pub explanation : IsExplanation folder bytes looks text
  pub files : Asks d.before d.after (graph_reads word bytes ++ looks)
  pub written : Appends before after text

-- ---- a graph file that cannot be read

-- the file that a word names was asked for and could not be read; then it was looked at, and what was found tells this
pub record IsUnreadAs (word : Text) (d : Devices) (why : Option TokenFile) : Type 0 where
  pub file : TokenFile
  pub named : is_input word ≡ false
  pub files : Asks d.before d.after (Read word (Err input.Read) ∷ Look word (Some file) ∷ [])
  pub told : why_unread file ≡ why

-- why it could not be read was written
abbrev pub ExplainsUnread : Text → Devices → Option (List ℕ) → Option (List ℕ) → Type 0
ExplainsUnread word d before after = (why : TokenFile) × IsUnreadAs word d (Some why) × Appends before after (unread_text word why)

-- what a word names was explained, or why it could not be read
abbrev pub Explains : Text → Option Text → Devices → Option (List ℕ) → Option (List ℕ) → Type 0
Explains word folder d before after = ExplainsFiles word folder d before after ⊎ ExplainsUnread word d before after
