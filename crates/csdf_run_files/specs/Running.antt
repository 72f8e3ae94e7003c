-- A run of a graph file over the token files of a folder.
use Rattle.std.specs.Prelude.{◌≡◌, ◌≢◌, ◌⊎◌, ℕ, Bool, true, List, [], ◌∷◌, ◌++◌, ◌<◌, false, Option, Some, None, Result, Ok, Err, ℤ, suc, filter, is_some, length, take, map, if◌then◌else◌, slice_index_or}
use Rattle.std.specs.Io.KnownBytes.{Appends}
use Rattle.std.specs.Path.{path_join}
use Rattle.std.specs.List.{zip}
use Rattle.csdf_graph.specs.declared.fault.GraphFault.{GraphFault}
use Rattle.csdf_bytes.specs.declared.intake.InputFault.{InputFault}
use Rattle.csdf_bytes.specs.declared.tokens.TokenFault.{TokenFault}
use Rattle.csdf_bytes.specs.declared.tokens.TokenFault.TheVariants as token
use Rattle.csdf_model.specs.Graph.{Actor, Graph}
use Rattle.csdf_graph.specs.GraphText.{IsGraphOf}
use Rattle.csdf_core.specs.Planned.{is_source_kernel}
use Rattle.csdf_floor.specs.declared.outcome.Outcome.{Outcome}
use Rattle.csdf_run.specs.declared.tokens.TokensFault.{TokensFault}
use Rattle.csdf_run.specs.declared.tokens.TokensFault.TheVariants as tokens
use Rattle.csdf_analysis.specs.declared.room.Room.{Room}
use Rattle.csdf_run.specs.Scripts.{kept_script}
use Rattle.csdf_run.specs.Texts.{text_at}
use Rattle.csdf_run.specs.Tokens.{IsRunOf, IsSequentialRunOf, IsTokensRefusal, IsTokensRefusalOf}
use Rattle.csdf_bytes.specs.TokenText.{tokens_in}
use Rattle.csdf_floor.specs.Work.{feeds_in, is_sink_kernel}
use Rattle.csdf_answers.specs.declared.fault.DeviceName.{DeviceName}
use Rattle.csdf_answers.specs.declared.fault.DeviceName.TheVariants.{File, Output}
use Rattle.csdf_answers.specs.declared.fault.ToolFault.{ToolFault}
use Rattle.csdf_answers.specs.declared.fault.ToolFault.TheVariants.{TokenSyntax, TokenRange, TooManyTokens, Device, Memory}
use Rattle.csdf_run_files.specs.declared.run.SinkFile.{SinkFile}
use Rattle.csdf_disk.specs.Acts.{Act, Asks, Devices, Marks, OnlyReads, Read}
use Rattle.csdf_words.specs.CommandLine.{Order}
use Rattle.csdf_disk.specs.Contents.{content_text}
use Rattle.csdf_files.specs.GraphFiles.{IsNamed, IsNotGiven, graph_reads}
use Rattle.csdf_told.specs.NoRun.{run_fault}
use Rattle.csdf_told.specs.Reports.{TellsReport}
use Rattle.csdf_files.specs.Files.{IsUnput, Written, feed_fault, put_as}
use Rattle.csdf_files.specs.Places.{Apart, IsInUse, in_file, listed_files, out_file}
use Rattle.csdf_answers.specs.Described.{actor_names}
use Rattle.csdf_answers.specs.Faults.{accept_fault, fault_of}
use Rattle.csdf_answers.specs.Printed.{name_at, names_of}

-- ---- files

abbrev pub file_view : SinkFile → Written
file_view file = record { folder = file.folder.now; name = file.name; text = content_text file.content }

-- the file of each sink in a folder among the actors from number a on, and the text of its list, in file order
abbrev pub sink_files_from : ℕ → List ℕ → List Actor → List (List ℤ) → List Written
sink_files_from a folder [] lists = []
sink_files_from a folder (actor ∷ actors) lists =
    if is_sink_kernel actor.kernel
    then record { folder = folder; name = out_file actor.name; text = text_at lists a } ∷ sink_files_from (suc a) folder actors lists
    else sink_files_from (suc a) folder actors lists

-- the file of a run's moves, where one is asked for and they were kept: its name is its path
abbrev pub journal_files : Option (List ℕ) → Option (List ℕ) → List Written
journal_files None text = []
journal_files (Some path) None = []
journal_files (Some path) (Some text) = record { folder = []; name = path; text = text } ∷ []

-- ---- faults

-- why the tokens of a source are refused, as the program tells it
abbrev pub token_fault : List ℕ → TokenFault → ToolFault
token_fault name (token.Syntax line) = TokenSyntax name line
token_fault name (token.Range line) = TokenRange name line
token_fault name token.TooMany = TooManyTokens name
token_fault name token.Read = Device (File (in_file name))
token_fault name token.Memory = Memory

-- why tokens make no run of the graph, as the program tells it: actors and channels by their names
abbrev pub tokens_fault : Graph → TokensFault → ToolFault
tokens_fault g (tokens.Accept why) = accept_fault (names_of g.channels) why
tokens_fault g (tokens.Feed feed) = token_fault (name_at (actor_names g.actors) feed.actor) feed.fault
tokens_fault g (tokens.Run why) = run_fault why

-- the fault tells why the texts make no run of the graph with this room
abbrev pub RefusesGraphRun : Room → Graph → List (List ℕ) → ToolFault → Type 0
RefusesGraphRun room g feeds fault = (why : TokensFault) × IsTokensRefusal room g feeds why × (fault ≡ tokens_fault g why)

-- the same of the graph of a file
abbrev pub RefusesRun : Room → Graph → List ℕ → List (List ℕ) → ToolFault → Type 0
RefusesRun room g bytes feeds fault = (why : TokensFault) × IsTokensRefusalOf room bytes feeds why × (fault ≡ tokens_fault g why)

-- why a run of the graph is not begun: a file that it is to write is in use; or none is, and the texts make no run
abbrev pub IsKeptFrom : Order → Graph → List (List ℕ) → List Act → ToolFault → Type 0
IsKeptFrom order g feeds looks fault =
    IsInUse (listed_files order g.actors) looks fault ⊎ (Apart (listed_files order g.actors) looks × RefusesGraphRun order.room g feeds fault)

-- ---- runs

-- the outcome is that of the run that is asked for, of the graph of a file over one text for each source, and its sinks are those of the sequential run; its moves
-- are kept where they are asked for
pub record IsRunBy (order : Order) (g : Graph) (bytes : List ℕ) (feeds : List (List ℕ)) (o : Outcome) : Type 0 where
  pub graph : IsGraphOf bytes (Ok g)
  pub told : IsRunOf order.room bytes feeds order.how_long order.firings o
  pub sequential : IsSequentialRunOf order.room bytes feeds order.how_long order.firings o
  pub kept : o.journal.keeps ≡ is_some order.journal

-- the run that is asked for, of what the devices gave: of the graph file's bytes, over a text for each source
pub record RunsOn (order : Order) (left : Option (List ℕ)) (g : Graph) (bytes : List ℕ) (feeds : List (List ℕ)) (o : Outcome) : Type 0 where
  pub named : IsNamed order.graph left bytes
  pub run : IsRunBy order g bytes feeds o

-- ---- what is asked of files

-- the token files of the sources in a folder, in file order
abbrev pub feed_paths : List ℕ → List Actor → List (List ℕ)
feed_paths folder actors =
    map (λ (actor : Actor). path_join folder (in_file actor.name)) (filter (λ (actor : Actor). is_source_kernel actor.kernel) actors)

-- a file is asked for, and this text comes
abbrev pub read_whole : List ℕ × List ℕ → Act
read_whole row = Read row.0 (Ok row.1)

-- these files are asked for, and these texts come
abbrev pub feed_reads : List ℕ → List Actor → List (List ℕ) → List Act
feed_reads folder actors texts = map read_whole (zip (feed_paths folder actors) texts)

-- all that a run asks for: the graph file and the token files
abbrev pub run_reads : Order → Graph → List ℕ → List (List ℕ) → List Act
run_reads order g bytes feeds = graph_reads order.graph bytes ++ feed_reads order.folder g.actors feeds

-- and then it is looked whether a file that it writes is in use
abbrev pub run_asks : Order → Graph → List ℕ → List (List ℕ) → List Act → List Act
run_asks order g bytes feeds looks = run_reads order g bytes feeds ++ looks

-- where an actor is a source, its token file was asked for, and this is what the text that came holds; else nothing was done, and it has no tokens
pub record IsFeedOf (folder : List ℕ) (actor : Actor) (before after : Option (List Act)) (told : Result (List ℤ) TokenFault) : Type 0 where
  pub source : is_source_kernel actor.kernel ≡ true
      → (text : List ℕ) × Asks before after (Read (path_join folder (in_file actor.name)) (Ok text) ∷ []) × (tokens_in text ≡ told)
  pub other : is_source_kernel actor.kernel ≡ false → (after ≡ before) × (told ≡ Ok [])

-- the token files of all sources were asked for in file order, and these texts came
pub record IsReadAll (folder : List ℕ) (actors : List Actor) (before after : Option (List Act)) (texts : List (List ℕ)) : Type 0 where
  pub asked : Asks before after (feed_reads folder actors texts)
  pub each : length (feed_paths folder actors) ≡ length texts

-- the token files of the sources before one were read, and that one's was not
pub record LacksFeed (folder : List ℕ) (actors : List Actor) (acts : List Act) (fault : ToolFault) : Type 0 where
  pub place : ℕ
  pub actor : Actor
  pub texts : List (List ℕ)
  pub why : InputFault
  pub within : place < length actors
  pub here : slice_index_or actors place actor ≡ actor
  pub source : is_source_kernel actor.kernel ≡ true
  pub each : length (feed_paths folder (take place actors)) ≡ length texts
  pub acts_are : acts ≡ feed_reads folder (take place actors) texts ++ Read (path_join folder (in_file actor.name)) (Err why) ∷ []
  pub told : fault ≡ feed_fault actor.name why

abbrev pub put_whole : Written → Act
put_whole file = put_as (Ok tt) file

-- the graphs have the same actors, and channels of the same names
pub record AreNamedAlike (g h : Graph) : Type 0 where
  pub actors : h.actors ≡ g.actors
  pub names : names_of h.channels ≡ names_of g.channels

-- the files of what the sinks took, and then that of the moves
abbrev pub files_of : Order → Graph → Outcome → List Written
files_of order g o = sink_files_from 0 order.sink_folder g.actors (feeds_in o.sinks.items) ++ journal_files order.journal (kept_script g o.journal)

-- the run was made of the bytes of the graph file and of the sources' token files, after it was looked whether a file that it writes is in use; then the text of
-- each sink was put in the place of its file, and after them the moves where they are asked for, and its report was written in the form that is asked for
pub record RunsOnFiles (order : Order) (d : Devices) (before after : Option (List ℕ)) : Type 0 where
  pub graph : Graph
  pub bytes : List ℕ
  pub feeds : List (List ℕ)
  pub looks : List Act
  pub outcome : Outcome
  pub apart : Apart (listed_files order graph.actors) looks
  pub runs : RunsOn order d.left graph bytes feeds outcome
  pub files : Asks d.before d.after (run_asks order graph bytes feeds looks ++ map put_whole (files_of order graph outcome))
  pub report : List ℕ
  pub tells : TellsReport order.form graph outcome report
  pub written : Appends before after report

-- of several files those before one were put whole, and that one was not; or memory ran out before the first
pub record IsCutShort (files : List Written) (acts : List Act) (fault : ToolFault) : Type 0 where
  pub many : ℕ
  pub last : List Act
  pub acts_are : acts ≡ map put_whole (take many files) ++ last
  pub cut : ((last ≡ []) × (fault ≡ Memory)) ⊎ ((file : Written) × (many < length files) × (slice_index_or files many file ≡ file) × IsUnput file last fault)

-- the run was made and its files were not all put
pub record EndsAmongFiles (order : Order) (d : Devices) (fault : ToolFault) : Type 0 where
  pub graph : Graph
  pub bytes : List ℕ
  pub feeds : List (List ℕ)
  pub looks : List Act
  pub outcome : Outcome
  pub puts : List Act
  pub apart : Apart (listed_files order graph.actors) looks
  pub runs : RunsOn order d.left graph bytes feeds outcome
  pub files : Asks d.before d.after (run_asks order graph bytes feeds looks ++ puts)
  pub cut : IsCutShort (files_of order graph outcome) puts fault

-- the run was made and its files were put, and the report was not written
pub record EndsAfterFiles (order : Order) (d : Devices) : Type 0 where
  pub graph : Graph
  pub bytes : List ℕ
  pub feeds : List (List ℕ)
  pub looks : List Act
  pub outcome : Outcome
  pub apart : Apart (listed_files order graph.actors) looks
  pub runs : RunsOn order d.left graph bytes feeds outcome
  pub files : Asks d.before d.after (run_asks order graph bytes feeds looks ++ map put_whole (files_of order graph outcome))

-- ---- why a run ends before its files are put

-- a token file was not read
abbrev pub StopsOnFeeds : Order → Graph → List ℕ → Devices → ToolFault → Type 0
StopsOnFeeds order g bytes d fault =
    (acts : List Act) × Asks d.before d.after (graph_reads order.graph bytes ++ acts) × LacksFeed order.folder g.actors acts fault

-- one text came for each source, and a file that the run is to write is in use
pub record StopsOnPlaces (order : Order) (g : Graph) (bytes : List ℕ) (d : Devices) (fault : ToolFault) : Type 0 where
  pub feeds : List (List ℕ)
  pub looks : List Act
  pub files : Asks d.before d.after (run_asks order g bytes feeds looks)
  pub each : length (feed_paths order.folder g.actors) ≡ length feeds
  pub in_use : IsInUse (listed_files order g.actors) looks fault

-- one text came for each source, no file is in use, and the texts make no run; that is never told of a stream
pub record StopsOnTexts (order : Order) (g : Graph) (bytes : List ℕ) (d : Devices) (fault : ToolFault) : Type 0 where
  pub feeds : List (List ℕ)
  pub looks : List Act
  pub apart : Apart (listed_files order g.actors) looks
  pub files : Asks d.before d.after (run_asks order g bytes feeds looks)
  pub each : length (feed_paths order.folder g.actors) ≡ length feeds
  pub refuses : RefusesRun order.room g bytes feeds fault
  pub no_stream : (stream : DeviceName) → fault ≢ Device stream

-- the graph of these bytes is refused, or a token file was not read, or they were all read and a file to be written is in use, or they make no run
abbrev pub StopsOnGraph : Order → List ℕ → Devices → ToolFault → Type 0
StopsOnGraph order bytes d fault =
    ((why : GraphFault) × IsGraphOf bytes (Err why) × Asks d.before d.after (graph_reads order.graph bytes) × (fault ≡ fault_of why))
    ⊎ ((g : Graph) × IsGraphOf bytes (Ok g) × (StopsOnFeeds order g bytes d fault ⊎ (StopsOnPlaces order g bytes d fault ⊎ StopsOnTexts order g bytes d fault)))

-- memory ran out, or the graph file was not read, or its bytes and the token files make no run
abbrev pub StopsRun : Order → Devices → Bool → ToolFault → Type 0
StopsRun order d failed fault =
    IsNotGiven order.graph d failed fault ⊎ ((bytes : List ℕ) × IsNamed order.graph d.left bytes × StopsOnGraph order bytes d fault)

-- no file was to be put, and this is why
pub record EndsBeforeFiles (order : Order) (d : Devices) (failed : Bool) (fault : ToolFault) : Type 0 where
  pub only : OnlyReads d.before d.after
  pub why : StopsRun order d failed fault

-- what was asked of files by a run that ends with this fault, and why: no file was to be put; or the run was made, and the files of some sinks were put, from
-- the first on; or all of them were, and standard output failed
abbrev pub EndsOnFiles : Order → Devices → Marks → ToolFault → Type 0
EndsOnFiles order d m fault =
    EndsBeforeFiles order d m.input fault
    ⊎ (EndsAmongFiles order d fault ⊎ ((fault ≡ Device Output) × (m.output ≡ true) × EndsAfterFiles order d))
