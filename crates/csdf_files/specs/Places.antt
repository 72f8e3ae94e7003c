-- Which files are one, and which of them a run has in use.
use Rattle.std.specs.Prelude.{◌≡◌, ℕ, Bool, true, false, ◌&&◌, ◌||◌, List, [], ◌∷◌, ◌++◌, Option, Some, None, codes, if◌then◌else◌, option_to_list}
use Rattle.std.specs.Path.{path_join}
use Rattle.csdf_model.specs.Graph.{Actor}
use Rattle.csdf_model.specs.Kernels.{is_sink_kernel, is_source_kernel}
use Rattle.csdf_words.specs.CommandLine.{Order}
use Rattle.csdf_answers.specs.declared.fault.ToolFault.{ToolFault}
use Rattle.csdf_answers.specs.declared.fault.ToolFault.TheVariants.{InUse}
use Rattle.csdf_files.specs.declared.apart.RunFile.{RunFile}
use Rattle.csdf_files.specs.declared.apart.Side.{Side}
use Rattle.csdf_files.specs.declared.apart.Side.TheVariants as side
use Rattle.csdf_disk.specs.declared.place.FilePlace.{FilePlace}
use Rattle.csdf_disk.specs.Places.{is_one}
use Rattle.csdf_disk.specs.Acts.{Act, Locate}
use Rattle.csdf_files.specs.GraphFiles.{is_input}

-- ---- the files of a run

-- the token file of a source, and that of a sink, by its name in the folder
abbrev pub in_file : List ℕ → List ℕ
in_file name = name ++ codes ".in"

abbrev pub out_file : List ℕ → List ℕ
out_file name = name ++ codes ".out"

-- a file of a run: its folder, its name there, and whether the run writes it
pub record Listed : Type 0 where
  pub folder : List ℕ
  pub name : List ℕ
  pub written : Bool

abbrev pub listed_view : RunFile → Listed
listed_view file = record { folder = file.folder.now; name = file.name; written = file.is_written }

abbrev pub listed : List ℕ → List ℕ → Bool → Listed
listed folder name written = record { folder = folder; name = name; written = written }

-- the token file of a source, which is read, or that of a sink, which is written
abbrev pub file_on : Side → List ℕ → Actor → Option Listed
file_on side.Sources folder actor = if is_source_kernel actor.kernel then Some (listed folder (in_file actor.name) false) else None
file_on side.Sinks folder actor = if is_sink_kernel actor.kernel then Some (listed folder (out_file actor.name) true) else None

-- those of all sources, or of all sinks, in file order
abbrev pub files_on : Side → List ℕ → List Actor → List Listed
files_on on folder [] = []
files_on on folder (actor ∷ actors) = option_to_list (file_on on folder actor) ++ files_on on folder actors

-- the path of the graph file: that of standard input where the word is `-`
abbrev pub graph_path : List ℕ → List ℕ
graph_path word = if is_input word then codes "/dev/stdin" else word

-- the graph file and the token files that are read, and then the file of the moves, where one is asked for
abbrev pub files_of_moves : Order → List Actor → Option (List ℕ) → List Listed
files_of_moves order actors None = []
files_of_moves order actors (Some path) =
    listed [] (graph_path order.graph) false ∷ files_on side.Sources order.folder actors ++ listed [] path true ∷ []

-- standard output, and the files of the sinks of a folder
abbrev pub sink_places : List ℕ → List Actor → List Listed
sink_places folder actors = listed [] (codes "/dev/stdout") false ∷ files_on side.Sinks folder actors

-- standard output, the files of the sinks, and those of the moves
abbrev pub listed_files : Order → List Actor → List Listed
listed_files order actors = sink_places order.sink_folder actors ++ files_of_moves order actors order.journal

-- ---- a file in use

-- a place is one of these
abbrev pub is_among : FilePlace → List FilePlace → Bool
is_among p [] = false
is_among p (q ∷ places) = is_one p q || is_among p places

-- a file is to be written and is one of these
abbrev pub is_in_use : Listed → FilePlace → List FilePlace → Bool
is_in_use file p places = file.written && is_among p places

-- a file is looked for, and this place is found
abbrev pub located : Listed → FilePlace → Act
located file p = Locate (path_join file.folder file.name) (Some p)

-- files are looked for one after another, and none that is to be written is one of those before it
pub data AreApart : List Listed → List FilePlace → List Act → Type 0 where
  none : AreApart [] [] []
  more : {files : List Listed} {places : List FilePlace} {acts : List Act} (file : Listed) (p : FilePlace) → AreApart files places acts
      → is_in_use file p places ≡ false → AreApart (files ++ file ∷ []) (places ++ p ∷ []) (acts ++ located file p ∷ [])

-- these were looked for, and none is in use
abbrev pub Apart : List Listed → List Act → Type 0
Apart files acts = (places : List FilePlace) × AreApart files places acts

-- those before a file were looked for and are apart, and that one is in use, as the fault tells
pub record IsInUse (files : List Listed) (acts : List Act) (fault : ToolFault) : Type 0 where
  pub front : List Listed
  pub file : Listed
  pub rest : List Listed
  pub places : List FilePlace
  pub found : FilePlace
  pub before : List Act
  pub split : files ≡ front ++ file ∷ rest
  pub apart : AreApart front places before
  pub in_use : is_in_use file found places ≡ true
  pub acts_are : acts ≡ before ++ located file found ∷ []
  pub told : fault ≡ InUse file.name
