-- What is told in place of a text is a fault of the file.
use Rattle.std.proofs.Common.{◌≡◌, ℕ, suc, List, [], ◌∷◌, Option, Some, None, Result, Ok, Err, sym, subst}
use Rattle.std.specs.Prelude.{MatchResult}
use Rattle.csdf_graph.specs.declared.fault.GraphFault.{GraphFault}
use Rattle.csdf_graph.specs.declared.fault.GraphFault.TheVariants as graph
use Rattle.csdf_model.specs.Graph.{Graph}
use Rattle.csdf_graph.specs.ScriptText.{Script, script_of}
use Rattle.csdf_analysis.specs.declared.fault.AcceptFault.{AcceptFault}
use Rattle.csdf_analysis.specs.declared.fault.AcceptFault.TheVariants as accept
use Rattle.csdf_answers.specs.declared.fault.ToolFault.{ToolFault}
use Rattle.csdf_answers.specs.declared.fault.ToolFault.TheVariants as fault
use Rattle.csdf_answers.specs.Faults.{◌>>=◌, fault_of, accept_fault}
use Rattle.csdf_answers.specs.Lines.{Line, line_in}
use Rattle.csdf_answers.specs.Printed.{names_of}
use Rattle.csdf_answers.specs.Session.{or_line, lines_from, IsReplay, IsReplayOf, IsAnswerFor, IsAnswer}

-- no stream failed, and the input is not too long
abbrev pub IsOfFile : ToolFault → Type 0
IsOfFile (fault.Graph f) = Unit {0}
IsOfFile (fault.Line n) = Unit {0}
IsOfFile (fault.Unbalanced name) = Unit {0}
IsOfFile (fault.TooLarge name) = Unit {0}
IsOfFile fault.Deadlock = Unit {0}
IsOfFile fault.TooTight = Unit {0}
IsOfFile fault.TooLong = ⊥
IsOfFile (fault.TokenSyntax name line) = ⊥
IsOfFile (fault.TokenRange name line) = ⊥
IsOfFile (fault.TokenCutOff name sample) = ⊥
IsOfFile (fault.TooManyTokens name) = ⊥
IsOfFile (fault.InUse name) = ⊥
IsOfFile (fault.Lacks lack) = ⊥
IsOfFile fault.Worker = ⊥
IsOfFile (fault.Device d) = ⊥
IsOfFile fault.Memory = Unit {0}

abbrev FailsByFile : {A : Type 0} → Result A ToolFault → Type 0
FailsByFile (Ok x) = Unit {0}
FailsByFile (Err f) = IsOfFile f

bind_by_file : {A B : Type 0} (r : Result A ToolFault) (f : A → Result B ToolFault) → FailsByFile r → ((x : A) → FailsByFile (f x)) → FailsByFile (r >>= f)
bind_by_file (Ok x) f first next = next x
bind_by_file (Err g) f first next = first

-- an answer, with its type
abbrev answer_of : Result (List ℕ) ToolFault → Result (List ℕ) ToolFault
answer_of r = r

fault_by_file : (f : GraphFault) → IsOfFile (fault_of f)
fault_by_file graph.NotToml = tt
fault_by_file (graph.Shape at) = tt
fault_by_file (graph.Name at) = tt
fault_by_file (graph.Range at) = tt
fault_by_file (graph.UnknownActor c) = tt
fault_by_file (graph.PhaseLength c) = tt
fault_by_file (graph.ZeroRate c) = tt
fault_by_file (graph.KernelPorts a) = tt
fault_by_file graph.NotConnected = tt
fault_by_file graph.Memory = tt

line_by_file : (n : ℕ) (o : Option Line) → FailsByFile (or_line n o)
line_by_file n None = tt
line_by_file n (Some line) = tt

lines_by_file : (g : Graph) (n : ℕ) (texts : List (List ℕ)) → FailsByFile (lines_from g n texts)
lines_by_file g n [] = tt
lines_by_file g n (text ∷ texts) =
    bind_by_file (or_line n (line_in g text)) _ (line_by_file n (line_in g text)) (λ line.
    bind_by_file (lines_from g (suc n) texts) _ (lines_by_file g (suc n) texts) (λ lines. tt))

accept_by_file : (names : List (List ℕ)) (f : AcceptFault) → IsOfFile (accept_fault names f)
accept_by_file names (accept.Unbalanced c) = tt
accept_by_file names (accept.TooLarge c) = tt
accept_by_file names accept.Deadlock = tt
accept_by_file names accept.TooTight = tt
accept_by_file names accept.Memory = tt

replay_by_file : (g : Graph) (script : Script) (r : Result (List Line) ToolFault) (f : ToolFault) → FailsByFile r
    → MatchResult r (λ lines. IsReplay g script lines (Err f)) (λ fault. answer_of (Err f) ≡ Err fault) → IsOfFile f
replay_by_file g script (Ok lines) f h e = subst IsOfFile (sym e.3) (accept_by_file (names_of g.channels) e.0)
replay_by_file g script (Err h') f h e = let same : h' ≡ f = cc in subst IsOfFile same h

script_by_file : (g : Graph) (r : Result Script GraphFault) (f : ToolFault)
    → MatchResult r (λ script. IsReplayOf g script (Err f)) (λ fault. answer_of (Err f) ≡ Err (fault_of fault)) → IsOfFile f
script_by_file g (Ok script) f e = replay_by_file g script (lines_from g 0 script.lines) f (lines_by_file g 0 script.lines) e
script_by_file g (Err h) f e = let same : fault_of h ≡ f = cc in subst IsOfFile same (fault_by_file h)

answer_by_file : (r : Result Graph GraphFault) (bytes : List ℕ) (f : ToolFault) → IsAnswerFor r bytes (Err f) → IsOfFile f
answer_by_file (Ok g) bytes f e = script_by_file g (script_of bytes) f e
answer_by_file (Err g) bytes f e = let same : fault_of g ≡ f = cc in subst IsOfFile same (fault_by_file g)

pub refusal_by_file : (bytes : List ℕ) (f : ToolFault) → IsAnswer bytes (Err f) → IsOfFile f
refusal_by_file bytes f answer = answer_by_file answer.0 bytes f answer.2
