-- Faults of the program, and passes that end at the first.
use Rattle.std.specs.Prelude.{◌≡◌, ◌≢◌, ℕ, List, ◌++◌, Result, Ok, Err, codes}
use Rattle.std.specs.Fmt.{decimal}
use Rattle.csdf_graph.specs.declared.fault.GraphFault.{GraphFault}
use Rattle.csdf_graph.specs.declared.fault.GraphFault.TheVariants as graph
use Rattle.csdf_graph.specs.FaultPlace.{place_text}
use Rattle.csdf_bytes.specs.declared.intake.InputFault.{InputFault}
use Rattle.csdf_bytes.specs.declared.intake.InputFault.TheVariants as input
use Rattle.csdf_analysis.specs.declared.fault.AcceptFault.{AcceptFault}
use Rattle.csdf_analysis.specs.declared.fault.AcceptFault.TheVariants as accept
use Rattle.csdf_answers.specs.declared.fault.Lack.{Lack}
use Rattle.csdf_answers.specs.declared.fault.Lack.TheVariants as lacks
use Rattle.csdf_answers.specs.declared.fault.LineEnd.{LineEnd}
use Rattle.csdf_answers.specs.declared.fault.LineEnd.TheVariants as end
use Rattle.csdf_answers.specs.declared.fault.DeviceName.{DeviceName}
use Rattle.csdf_answers.specs.declared.fault.DeviceName.TheVariants.{Input, Output, File}
use Rattle.csdf_answers.specs.Printed.{name_at}
use Rattle.csdf_answers.specs.declared.fault.ToolFault.{ToolFault}
use Rattle.csdf_answers.specs.declared.fault.ToolFault.TheVariants.{Graph, Line, Unbalanced, TooLarge, Deadlock, TooTight, TooLong}
use Rattle.csdf_answers.specs.declared.fault.ToolFault.TheVariants.{TokenSyntax, TokenRange, TokenCutOff, TooManyTokens, InUse, Lacks, Worker, Device, Memory}

-- ---- texts

-- the text of a stream
abbrev pub stream_text : DeviceName → List ℕ
stream_text Input = codes "standard input"
stream_text Output = codes "standard output"
stream_text (File name) = name

-- the text of a fault of a graph file
abbrev pub graph_text : GraphFault → List ℕ
graph_text graph.NotToml = codes "not TOML"
graph_text (graph.Shape at) = codes "shape at " ++ place_text at
graph_text (graph.Name at) = codes "name at " ++ place_text at
graph_text (graph.Range at) = codes "range at " ++ place_text at
graph_text (graph.UnknownActor c) = codes "unknown actor at channel " ++ decimal c
graph_text (graph.PhaseLength c) = codes "phase length at channel " ++ decimal c
graph_text (graph.ZeroRate c) = codes "zero rate at channel " ++ decimal c
graph_text (graph.KernelPorts a) = codes "kernel ports at actor " ++ decimal a
graph_text graph.NotConnected = codes "not connected"
graph_text graph.Memory = codes "out of memory"

-- what a fault of a line or a sample of a token file ends with
abbrev pub end_text : LineEnd → List ℕ
end_text (end.Syntax line) = codes ": syntax at line " ++ decimal line
end_text (end.Range line) = codes ": range at line " ++ decimal line
end_text (end.CutOff sample) = codes ": cut off at sample " ++ decimal sample

-- what the words that ask for a stream lack
abbrev pub lack_text : Lack → List ℕ
lack_text lacks.SourcesFolder = codes "DIR is needed: the graph has several sources"
lack_text lacks.SinksFolder = codes "DIR is needed: the graph has several sinks"
lack_text lacks.Periods = codes "--periods is needed: the graph has no source"
lack_text lacks.GraphFile = codes "a graph file is needed: standard input has the tokens"

-- the reason of a fault
abbrev pub reason_text : ToolFault → List ℕ
reason_text (Graph fault) = codes "graph: " ++ graph_text fault
reason_text (Line n) = codes "script: line " ++ decimal n
reason_text (Unbalanced name) = codes "graph: unbalanced at channel " ++ name
reason_text (TooLarge name) = codes "graph: too large at channel " ++ name
reason_text Deadlock = codes "graph: deadlock"
reason_text TooTight = codes "graph: too tight"
reason_text TooLong = codes "input too long"
reason_text (TokenSyntax name line) = codes "tokens " ++ name ++ end_text (end.Syntax line)
reason_text (TokenRange name line) = codes "tokens " ++ name ++ end_text (end.Range line)
reason_text (TokenCutOff name sample) = codes "tokens " ++ name ++ end_text (end.CutOff sample)
reason_text (TooManyTokens name) = codes "tokens " ++ name ++ codes ": too many"
reason_text (InUse name) = codes "file in use: " ++ name
reason_text (Lacks lack) = codes "stream: " ++ lack_text lack
reason_text Worker = codes "run: worker"
reason_text (Device stream) = codes "device: " ++ stream_text stream
reason_text Memory = codes "memory"

-- the text of a fault: the name of the program, and the reason
abbrev pub fault_text : ToolFault → List ℕ
fault_text fault = codes "csdf: " ++ reason_text fault

-- ---- passes

infixl 10 ◌>>=◌
abbrev pub ◌>>=◌ : {A B : Type 0} → Result A ToolFault → (A → Result B ToolFault) → Result B ToolFault
(Ok x) >>= f = f x
(Err e) >>= f = Err e

-- a fault of a graph file as the program tells it; want of memory is no fault of the file
abbrev pub fault_of : GraphFault → ToolFault
fault_of graph.NotToml = Graph graph.NotToml
fault_of (graph.Shape at) = Graph (graph.Shape at)
fault_of (graph.Name at) = Graph (graph.Name at)
fault_of (graph.Range at) = Graph (graph.Range at)
fault_of (graph.UnknownActor c) = Graph (graph.UnknownActor c)
fault_of (graph.PhaseLength c) = Graph (graph.PhaseLength c)
fault_of (graph.ZeroRate c) = Graph (graph.ZeroRate c)
fault_of (graph.KernelPorts a) = Graph (graph.KernelPorts a)
fault_of graph.NotConnected = Graph graph.NotConnected
fault_of graph.Memory = Memory

-- why a graph is not accepted, as the program tells it: channels by their names
abbrev pub accept_fault : List (List ℕ) → AcceptFault → ToolFault
accept_fault names (accept.Unbalanced c) = Unbalanced (name_at names c)
accept_fault names (accept.TooLarge c) = TooLarge (name_at names c)
accept_fault names accept.Deadlock = Deadlock
accept_fault names accept.TooTight = TooTight
accept_fault names accept.Memory = Memory

-- why a stream was not read, as the program tells it
abbrev pub unread : DeviceName → InputFault → ToolFault
unread stream input.Read = Device stream
unread stream input.TooLong = TooLong
unread stream input.Memory = Memory

-- what a function answered, seen by view, is what is wanted, unless memory ran out
abbrev pub Gives : {X Y : Type 0} → (X → Y) → Result X ToolFault → Result Y ToolFault → Type 0
Gives view (Ok x) wanted = wanted ≡ Ok (view x)
Gives view (Err fault) wanted = fault ≢ Memory → wanted ≡ Err fault

-- what a function answered, seen by view, is an answer that is allowed, unless memory ran out
abbrev pub Tells : {X Y : Type 0} → (X → Y) → Result X ToolFault → (Result Y ToolFault → Type 0) → Type 0
Tells view (Ok x) Allows = Allows (Ok (view x))
Tells view (Err fault) Allows = fault ≢ Memory → Allows (Err fault)

-- the exit status: 1 where an input was refused, 2 where the files or the words of the command line are, 3 where a device, memory or a run failed
abbrev pub status_of : ToolFault → ℕ
status_of (Graph fault) = 1
status_of (Line n) = 1
status_of (Unbalanced name) = 1
status_of (TooLarge name) = 1
status_of Deadlock = 1
status_of TooTight = 1
status_of TooLong = 1
status_of (TokenSyntax name line) = 1
status_of (TokenRange name line) = 1
status_of (TokenCutOff name sample) = 1
status_of (TooManyTokens name) = 1
status_of (InUse name) = 2
status_of (Lacks lack) = 2
status_of Worker = 3
status_of (Device d) = 3
status_of Memory = 3
