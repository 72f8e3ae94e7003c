-- A stream of a graph file, from standard input to standard output, or over the files of folders.
use Rattle.std.specs.Prelude.{◌≡◌, ◌⊎◌, ◌+◌, ◌<◌, ◌==◌, ◌&&◌, ℕ, Bool, true, false, List, [], ◌∷◌, ◌++◌, Option, Some, None, Ok, Err, nat_lt, length, map, take, drop, is_none, is_some, slice_index_or, if◌then◌else◌}
use Rattle.std.specs.Io.KnownBytes.{Appends}
use Rattle.std.specs.List.{zip}
use Rattle.std.specs.Path.{path_buf_bytes, path_join}
use Rattle.csdf_graph.specs.declared.fault.GraphFault.{GraphFault}
use Rattle.csdf_graph.specs.GraphText.{IsGraphOf}
use Rattle.csdf_model.specs.Graph.{Actor, Graph}
use Rattle.csdf_model.specs.Kernels.{is_sink_kernel, is_source_kernel}
use Rattle.csdf_analysis.specs.Acceptance.{Accepted, IsAccepted, IsNotAccepted}
use Rattle.csdf_analysis.specs.Room.{IsWithRoom}
use Rattle.csdf_analysis.specs.declared.fault.AcceptFault.{AcceptFault}
use Rattle.csdf_run.specs.Streaming.{StreamView}
use Rattle.csdf_stream.specs.declared.end.StreamEnd.{StreamEnd}
use Rattle.csdf_stream.specs.declared.end.StreamFault.{StreamFault}
use Rattle.csdf_stream.specs.declared.end.StreamFault.TheVariants as why
use Rattle.csdf_stream.specs.declared.reader.ReaderFault.{ReaderFault}
use Rattle.csdf_stream.specs.declared.reader.ReaderFault.TheVariants as reading
use Rattle.csdf_stream.specs.Flowing.{Devices as Flow, IsStopped, IsStreamed, devices as flow}
use Rattle.csdf_stream.specs.Marks.{IsMarked}
use Rattle.csdf_stream.specs.Ports.{sinks_in, sources_in}
use Rattle.csdf_answers.specs.declared.fault.Lack.{Lack}
use Rattle.csdf_answers.specs.declared.fault.Lack.TheVariants as lack
use Rattle.csdf_answers.specs.declared.fault.DeviceName.{DeviceName}
use Rattle.csdf_answers.specs.declared.fault.DeviceName.TheVariants.{File, Input, Output}
use Rattle.csdf_answers.specs.declared.fault.ToolFault.{ToolFault}
use Rattle.csdf_answers.specs.declared.fault.ToolFault.TheVariants.{Device, Lacks, Memory, TokenCutOff, TokenRange, TokenSyntax, TooManyTokens}
use Rattle.csdf_answers.specs.Described.{actor_names}
use Rattle.csdf_answers.specs.Faults.{accept_fault, fault_of}
use Rattle.csdf_answers.specs.Printed.{name_at, names_of}
use Rattle.csdf_words.specs.CommandLine.{FolderNames, StreamOrder}
use Rattle.csdf_words.specs.Workers.{most_workers}
use Rattle.csdf_disk.specs.Acts.{Act, Asks, Devices, Keep, Leave, Make, Marks, Open, devices}
use Rattle.csdf_files.specs.GraphFiles.{IsGivenBy, IsNotGiven, is_input}
use Rattle.csdf_files.specs.Places.{Apart, IsInUse, in_file, out_file, sink_places}
use Rattle.csdf_told.specs.Reports.{TellsStream}
use Rattle.csdf_files.specs.Files.{put_fault}
use Rattle.csdf_told.specs.NoRun.{run_fault}
use Rattle.csdf_flows.specs.declared.flow_fault.Medium.{Medium}
use Rattle.csdf_flows.specs.declared.flow_fault.Medium.TheVariants as medium
use Rattle.csdf_flows.specs.declared.flow_files.FlowFile.{FlowFile}
use Rattle.csdf_flows.specs.declared.flow_files.Unkept.{Unkept}
use Rattle.csdf_disk.specs.declared.put_fault.PutFault.{PutFault}

-- ---- words that do not fit the graph

-- without folders a graph has one source and one sink at most, and one without sources needs a number of periods
abbrev pub lack_by : Bool → Bool → ℕ → ℕ → Option Lack
lack_by standard endless sources sinks =
    if standard && nat_lt 1 sources then Some lack.SourcesFolder
    else if standard && nat_lt 1 sinks then Some lack.SinksFolder
    else if endless && sources == 0 then Some lack.Periods
    else None

abbrev pub lack_of : StreamOrder → Graph → Option Lack
lack_of order g = lack_by (is_none order.folders) (is_none order.periods) (length (sources_in g)) (length (sinks_in g))

-- whether the graph file is standard input, and the streams are files
abbrev pub reads_graph : StreamOrder → Bool
reads_graph order = is_some order.folders && is_input order.graph

-- the graph of these bytes fits the words, and is accepted with the room that is asked for
pub record IsAcceptedOf (order : StreamOrder) (bytes : List ℕ) (a : Accepted) : Type 0 where
  pub graph : Graph
  pub of : IsGraphOf bytes (Ok graph)
  pub fits : lack_of order graph ≡ None
  pub room : IsWithRoom order.room a.q graph a.graph
  pub accepted : IsAccepted a

-- why there is no such graph: that of these bytes has a fault, does not fit the words, or is not accepted
abbrev pub RefusesStream : StreamOrder → List ℕ → ToolFault → Type 0
RefusesStream order bytes fault =
    ((refusal : GraphFault) × IsGraphOf bytes (Err refusal) × (fault ≡ fault_of refusal))
    ⊎ ((g : Graph) × IsGraphOf bytes (Ok g)
    × (((l : Lack) × (lack_of order g ≡ Some l) × (fault ≡ Lacks l))
    ⊎ ((refusal : AcceptFault) × (lack_of order g ≡ None) × IsNotAccepted g refusal × (fault ≡ accept_fault (names_of g.channels) refusal))))

-- ---- why a stream stopped, as the program tells it

-- where the tokens of a source come from, by its name, and where those of a sink go to
abbrev pub source_stream : Medium → List ℕ → DeviceName
source_stream medium.Standard name = Input
source_stream medium.Files name = File (in_file name)

abbrev pub sink_stream : Medium → List ℕ → DeviceName
sink_stream medium.Standard name = Output
sink_stream medium.Files name = File (out_file name)

abbrev pub source_fault : Medium → List ℕ → ReaderFault → ToolFault
source_fault on name reading.Read = Device (source_stream on name)
source_fault on name (reading.Syntax line) = TokenSyntax name line
source_fault on name (reading.Range line) = TokenRange name line
source_fault on name (reading.CutOff number) = TokenCutOff name number
source_fault on name reading.Memory = Memory

abbrev pub stream_fault : Medium → List (List ℕ) → StreamFault → ToolFault
stream_fault on names (why.Source i fault) = source_fault on (name_at names i) fault
stream_fault on names (why.TooMany i) = TooManyTokens (name_at names i)
stream_fault on names (why.Sink t) = Device (sink_stream on (name_at names t))
stream_fault on names (why.Run fault) = run_fault fault
stream_fault on names why.Memory = Memory

-- the stream of an accepted graph was stopped, and the fault tells why, or want of memory for it
pub record IsStoppedBy (order : StreamOrder) (on : Medium) (a : Accepted) (d : Flow) (ins outs : List Bool) (fault : ToolFault) : Type 0 where
  pub stop : StreamFault
  pub stopped : IsStopped a order.format (most_workers order.workers) d stop
  pub marked : IsMarked (sources_in a.graph) (sinks_in a.graph) ins outs stop
  pub told : (fault ≡ stream_fault on (actor_names a.graph.actors) stop) ⊎ (fault ≡ Memory)

-- ---- standard input and standard output

-- what standard input had left before a command and after it, what standard output and standard error had taken, and whether standard error has failed
pub record Standard : Type 0 where
  pub left : Option (List ℕ)
  pub rest : Option (List ℕ)
  pub before : Option (List ℕ)
  pub after : Option (List ℕ)
  pub told : Option (List ℕ)
  pub tells : Option (List ℕ)
  pub mute : Bool

abbrev pub standard : Option (List ℕ) → Option (List ℕ) → Option (List ℕ) → Option (List ℕ) → Option (List ℕ) → Option (List ℕ) → Bool → Standard
standard left rest before after told tells mute =
    record { left = left; rest = rest; before = before; after = after; told = told; tells = tells; mute = mute }

-- one device for each of these actors, of whom there is one at most
abbrev pub one_for : {A : Type 0} → List ℕ → A → List A
one_for actors device = take (length actors) (device ∷ [])

-- one, where there is one
abbrev pub count_of : Bool → ℕ
count_of true = 1
count_of false = 0

-- standard input as the device of the source, and standard output as that of the sink
abbrev pub standard_flow : Graph → Option (List ℕ) → Option (List ℕ) → Option (List ℕ) → Option (List ℕ) → Flow
standard_flow g left rest before after = flow (one_for (sources_in g) left) (one_for (sources_in g) rest) (one_for (sinks_in g) before) (one_for (sinks_in g) after)

-- what standard input had left before a command and after it, and what standard output had taken
pub record Through : Type 0 where
  pub left : Option (List ℕ)
  pub rest : Option (List ℕ)
  pub before : Option (List ℕ)
  pub after : Option (List ℕ)

abbrev pub through : Option (List ℕ) → Option (List ℕ) → Option (List ℕ) → Option (List ℕ) → Through
through left rest before after = record { left = left; rest = rest; before = before; after = after }

-- the stream was run, and this is its report
pub record IsFlow (order : StreamOrder) (a : Accepted) (d : Flow) (report : List ℕ) : Type 0 where
  pub stream : StreamView
  pub end : StreamEnd
  pub streamed : IsStreamed a order.format order.periods stream d end
  pub tells : TellsStream order.form a.graph stream.totals end report

-- what standard input gave was streamed to standard output, and the report is on standard error, unless that failed
pub record StreamsStandard (order : StreamOrder) (d : Devices) (s : Standard) : Type 0 where
  pub bytes : List ℕ
  pub accepted : Accepted
  pub report : List ℕ
  pub given : IsGivenBy order.graph d bytes
  pub is : IsAcceptedOf order bytes accepted
  pub flows : IsFlow order accepted (standard_flow accepted.graph s.left s.rest s.before s.after) report
  pub told : Appends s.told s.tells report ⊎ (s.mute ≡ true)

-- ---- files

-- a file of a stream: its path, and its name in its folder
pub record Placed : Type 0 where
  pub path : List ℕ
  pub name : List ℕ

abbrev pub placed : List ℕ → List ℕ → Placed
placed folder name = record { path = path_join folder name; name = name }

abbrev pub flow_file_view : FlowFile → Placed
flow_file_view file = record { path = path_buf_bytes file.path; name = file.name }

-- the file of an actor that is a source, and that of a sink
abbrev pub source_at : List ℕ → Actor → List Placed
source_at folder actor = if is_source_kernel actor.kernel then placed folder (in_file actor.name) ∷ [] else []

abbrev pub sink_at : List ℕ → Actor → List Placed
sink_at folder actor = if is_sink_kernel actor.kernel then placed folder (out_file actor.name) ∷ [] else []

-- the files of the sources in a folder, in file order, and those of the sinks
abbrev pub sources_at : List ℕ → List Actor → List Placed
sources_at folder [] = []
sources_at folder (actor ∷ actors) = source_at folder actor ++ sources_at folder actors

abbrev pub sinks_at : List ℕ → List Actor → List Placed
sinks_at folder [] = []
sinks_at folder (actor ∷ actors) = sink_at folder actor ++ sinks_at folder actors

-- a file was opened to be read, and one was made to be written; one that was made is put in its place, with what it had taken, or given up
abbrev pub open_of : Placed → Act
open_of file = Open file.path true

abbrev pub miss_of : Placed → Act
miss_of file = Open file.path false

abbrev pub make_of : Placed → Act
make_of file = Make file.path (Ok tt)

abbrev pub unmade_of : PutFault → Placed → Act
unmade_of come file = Make file.path (Err come)

abbrev pub keep_of : Placed × Option (List ℕ) → Act
keep_of row = Keep row.0.path row.1 (Ok tt)

abbrev pub leave_of : Placed → Act
leave_of file = Leave file.path

abbrev pub keeps : List Placed → List (Option (List ℕ)) → List Act
keeps files taken = map keep_of (zip files taken)

-- no sink's file is in use, the files of all sources were opened, and those of all sinks made
pub record AreReady (folders : FolderNames) (g : Graph) (before made : Option (List Act)) : Type 0 where
  pub looked : Option (List Act)
  pub opened : Option (List Act)
  pub looks : List Act
  pub apart : Apart (sink_places folders.sinks g.actors) looks
  pub at_looks : Asks before looked looks
  pub at_opens : Asks looked opened (map open_of (sources_at folders.sources g.actors))
  pub at_makes : Asks opened made (map make_of (sinks_at folders.sinks g.actors))

-- the stream was run over the files of folders, and then each sink's file put in its place, with what the sink took
pub record FlowsOverFiles (order : StreamOrder) (folders : FolderNames) (a : Accepted) (before after : Option (List Act)) (report : List ℕ) : Type 0 where
  pub made : Option (List Act)
  pub d : Flow
  pub ready : AreReady folders a.graph before made
  pub flows : IsFlow order a d report
  pub kept : Asks made after (keeps (sinks_at folders.sinks a.graph.actors) d.after)

-- the same of the graph of the bytes that the words name, and the report is on standard output
pub record StreamsFiles (order : StreamOrder) (folders : FolderNames) (d : Devices) (before after : Option (List ℕ)) : Type 0 where
  pub bytes : List ℕ
  pub accepted : Accepted
  pub report : List ℕ
  pub read : Option (List Act)
  pub given : IsGivenBy order.graph (devices d.left d.before read) bytes
  pub is : IsAcceptedOf order bytes accepted
  pub flows : FlowsOverFiles order folders accepted read d.after report
  pub written : Appends before after report

-- ---- why files are not streamed

-- of several files those before one were asked for so, that one was not, and this is asked for then
pub record AreCut (files : List Placed) (well : Placed → Act) (not : Placed → Act) (then_ : ℕ → List Act) (acts : List Act) (name : List ℕ) : Type 0 where
  pub many : ℕ
  pub file : Placed
  pub within : many < length files
  pub here : slice_index_or files many file ≡ file
  pub named : name ≡ file.name
  pub acts_are : acts ≡ map well (take many files) ++ not file ∷ then_ many

-- the file of a source was not opened
pub record IsUnopened (files : List Placed) (acts : List Act) (fault : ToolFault) : Type 0 where
  pub name : List ℕ
  pub cut : AreCut files open_of miss_of (λ many. []) acts name
  pub told : fault ≡ Device (File name)

-- the file of a sink was not made, and those made before it were given up
pub record IsUnmade (files : List Placed) (acts : List Act) (fault : ToolFault) : Type 0 where
  pub name : List ℕ
  pub come : PutFault
  pub cut : AreCut files make_of (unmade_of come) (λ many. map leave_of (take many files)) acts name
  pub told : fault ≡ put_fault name come

-- the file with this number was not put in its place, and those before it were
pub record IsUnkeptAt (files : List Placed) (taken : List (Option (List ℕ))) (before after : Option (List Act)) (unkept : Unkept) : Type 0 where
  pub within : unkept.number < length files
  pub asked : (file : Placed) → slice_index_or files unkept.number file ≡ file
      → Asks before after (keeps (take unkept.number files) (take unkept.number taken)
      ++ Keep file.path (slice_index_or taken unkept.number None) (Err unkept.why) ∷ [])

-- the file of a sink was not put in its place, and those behind it were given up
pub record IsUnkept (files : List Placed) (taken : List (Option (List ℕ))) (acts : List Act) (fault : ToolFault) : Type 0 where
  pub many : ℕ
  pub file : Placed
  pub come : PutFault
  pub within : many < length files
  pub here : slice_index_or files many file ≡ file
  pub acts_are : acts ≡ keeps (take many files) (take many taken) ++ Keep file.path (slice_index_or taken many None) (Err come) ∷ map leave_of (drop (many + 1) files)
  pub told : (fault ≡ put_fault file.name come) ⊎ (fault ≡ Memory)

-- a sink's file is in use
pub record StopsInUse (folders : FolderNames) (g : Graph) (before after : Option (List Act)) (fault : ToolFault) : Type 0 where
  pub looks : List Act
  pub asked : Asks before after looks
  pub used : IsInUse (sink_places folders.sinks g.actors) looks fault

-- none is, and a source's file was not opened
pub record StopsOpening (folders : FolderNames) (g : Graph) (before after : Option (List Act)) (fault : ToolFault) : Type 0 where
  pub looked : Option (List Act)
  pub looks : List Act
  pub acts : List Act
  pub apart : Apart (sink_places folders.sinks g.actors) looks
  pub at_looks : Asks before looked looks
  pub at_opens : Asks looked after acts
  pub unopened : IsUnopened (sources_at folders.sources g.actors) acts fault

-- all were, and a sink's file was not made
pub record StopsMaking (folders : FolderNames) (g : Graph) (before after : Option (List Act)) (fault : ToolFault) : Type 0 where
  pub looked : Option (List Act)
  pub opened : Option (List Act)
  pub looks : List Act
  pub acts : List Act
  pub apart : Apart (sink_places folders.sinks g.actors) looks
  pub at_looks : Asks before looked looks
  pub at_opens : Asks looked opened (map open_of (sources_at folders.sources g.actors))
  pub at_makes : Asks opened after acts
  pub unmade : IsUnmade (sinks_at folders.sinks g.actors) acts fault

-- the stream was stopped, or memory ran out for its report, and all sinks' files were given up
pub record StopsFlowing (order : StreamOrder) (folders : FolderNames) (a : Accepted) (before after : Option (List Act)) (fault : ToolFault) : Type 0 where
  pub made : Option (List Act)
  pub ready : AreReady folders a.graph before made
  pub left : Asks made after (map leave_of (sinks_at folders.sinks a.graph.actors))
  pub stopped : (fault ≡ Memory) ⊎ ((d : Flow) × (ins : List Bool) × (outs : List Bool) × IsStoppedBy order medium.Files a d ins outs fault)

-- why a stream over files that were made has no report, or its sinks' files were not all put in their places: the files were given up, or one was not put
abbrev pub StopsMade : StreamOrder → Accepted → List Placed → Option (List Act) → Option (List Act) → ToolFault → Type 0
StopsMade order a files before after fault =
    (Asks before after (map leave_of files) × ((fault ≡ Memory) ⊎ ((d : Flow) × (ins : List Bool) × (outs : List Bool) × IsStoppedBy order medium.Files a d ins outs fault)))
    ⊎ ((d : Flow) × (report : List ℕ) × (acts : List Act) × IsFlow order a d report × Asks before after acts × IsUnkept files d.after acts fault)

-- the stream was run, and a sink's file was not put in its place
pub record StopsKeeping (order : StreamOrder) (folders : FolderNames) (a : Accepted) (before after : Option (List Act)) (fault : ToolFault) : Type 0 where
  pub made : Option (List Act)
  pub d : Flow
  pub report : List ℕ
  pub acts : List Act
  pub ready : AreReady folders a.graph before made
  pub flows : IsFlow order a d report
  pub asked : Asks made after acts
  pub unkept : IsUnkept (sinks_at folders.sinks a.graph.actors) d.after acts fault

-- why an accepted graph is not streamed over files
abbrev pub StopsFiles : StreamOrder → FolderNames → Accepted → Option (List Act) → Option (List Act) → ToolFault → Type 0
StopsFiles order folders a before after fault =
    (fault ≡ Memory) ⊎ (StopsInUse folders a.graph before after fault ⊎ (StopsOpening folders a.graph before after fault
    ⊎ (StopsMaking folders a.graph before after fault ⊎ (StopsFlowing order folders a before after fault ⊎ StopsKeeping order folders a before after fault))))

-- ---- what comes of the words

-- what is asked for was streamed
abbrev pub StreamsOver : Option FolderNames → StreamOrder → Devices → Standard → Type 0
StreamsOver None order d s = StreamsStandard order d s
StreamsOver (Some folders) order d s = StreamsFiles order folders d s.before s.after

abbrev pub Streams : StreamOrder → Devices → Standard → Type 0
Streams order d s = StreamsOver order.folders order d s

-- the bytes that the words name are no graph to be streamed, and nothing else was asked of files
pub record StopsOnGraph (order : StreamOrder) (d : Devices) (fault : ToolFault) : Type 0 where
  pub bytes : List ℕ
  pub given : IsGivenBy order.graph d bytes
  pub refuses : RefusesStream order bytes fault

-- the graph that they are was not streamed over files
pub record StopsOverFiles (order : StreamOrder) (folders : FolderNames) (d : Devices) (m : Marks) (fault : ToolFault) : Type 0 where
  pub bytes : List ℕ
  pub accepted : Accepted
  pub read : Option (List Act)
  pub given : IsGivenBy order.graph (devices d.left d.before read) bytes
  pub is : IsAcceptedOf order bytes accepted
  pub stops : StopsFiles order folders accepted read d.after fault
      ⊎ ((report : List ℕ) × FlowsOverFiles order folders accepted read d.after report × (fault ≡ Device Output) × (m.output ≡ true))

-- the graph that they are was not streamed from standard input to standard output: what these gave and took is that of a stream that was stopped
pub record StopsOverStandard (order : StreamOrder) (d : Devices) (t : Through) (m : Marks) (fault : ToolFault) : Type 0 where
  pub bytes : List ℕ
  pub accepted : Accepted
  pub given : IsGivenBy order.graph d bytes
  pub is : IsAcceptedOf order bytes accepted
  pub stops : (fault ≡ Memory) ⊎ IsStoppedBy order medium.Standard accepted (standard_flow accepted.graph t.left t.rest t.before t.after)
      (one_for (sources_in accepted.graph) m.input) (one_for (sinks_in accepted.graph) m.output) fault

-- why nothing is streamed from standard input to standard output: it is to be the graph file too, no bytes came of the graph file, they are no graph to be
-- streamed, or it was not streamed to its end
abbrev pub StopsStandard : StreamOrder → Devices → Through → Marks → ToolFault → Type 0
StopsStandard order d t m fault =
    ((is_input order.graph ≡ true) × (fault ≡ Lacks lack.GraphFile))
    ⊎ (IsNotGiven order.graph d m.input fault ⊎ (StopsOnGraph order d fault ⊎ StopsOverStandard order d t m fault))

abbrev pub StopsOver : Option FolderNames → StreamOrder → Devices → Through → Marks → ToolFault → Type 0
StopsOver None order d t m fault = StopsStandard order d t m fault
StopsOver (Some folders) order d t m fault =
    IsNotGiven order.graph d m.input fault ⊎ (StopsOnGraph order d fault ⊎ StopsOverFiles order folders d m fault)

-- why what is asked for is not streamed
abbrev pub StopsStream : StreamOrder → Devices → Through → Marks → ToolFault → Type 0
StopsStream order d t m fault = StopsOver order.folders order d t m fault
