-- What a script plays, and what the program prints for it.
use Rattle.std.specs.Prelude.{◌≡◌, ◌≢◌, ℕ, suc, List, [], ◌∷◌, ◌++◌, Option, Some, None, MatchResult, Result, Ok, Err, length, map, replicate, if◌then◌else◌}
use Rattle.csdf_graph.specs.declared.fault.GraphFault.{GraphFault}
use Rattle.csdf_model.specs.Graph.{Graph, Actor}
use Rattle.csdf_model.specs.Kernels.{is_source_kernel}
use Rattle.csdf_graph.specs.GraphText.{IsGraphOf}
use Rattle.csdf_graph.specs.ScriptText.{Script, script_of}
use Rattle.csdf_pool.specs.Pool.{Shared, held_tokens, IsPartition}
use Rattle.csdf_analysis.specs.declared.fault.AcceptFault.{AcceptFault}
use Rattle.csdf_analysis.specs.declared.fault.AcceptFault.TheVariants as accept
use Rattle.csdf_analysis.specs.Acceptance.{Accepted, IsAccepted, IsNotAccepted}
use Rattle.csdf_core.specs.Planned.{plan_for}
use Rattle.csdf_core.specs.Plan.{Plan}
use Rattle.csdf_core.specs.State.{State, Present, present, opening}
use Rattle.csdf_core.specs.Step.{reply_to, after}
use Rattle.csdf_answers.specs.declared.fault.ToolFault.{ToolFault}
use Rattle.csdf_answers.specs.declared.fault.ToolFault.TheVariants as fault
use Rattle.csdf_answers.specs.Faults.{◌>>=◌, fault_of, accept_fault}
use Rattle.csdf_answers.specs.Lines.{Line, Play, Cells, line_in}
use Rattle.csdf_answers.specs.Printed.{names_of, reply_line, cells_text}

-- ---- what is played

abbrev pub or_line : ℕ → Option Line → Result Line ToolFault
or_line n None = Err (fault.Line n)
or_line n (Some line) = Ok line

-- the lines of a script from number n on, or the first that asks for nothing that there is
abbrev pub lines_from : Graph → ℕ → List (List ℕ) → Result (List Line) ToolFault
lines_from g n [] = Ok []
lines_from g n (text ∷ texts) = or_line n (line_in g text) >>= λ line. lines_from g (suc n) texts >>= λ lines. Ok (line ∷ lines)

-- how many tokens the file of an actor has: as many as the script supplies for a source, and none for any other
abbrev pub supply_of : ℕ → Actor → ℕ
supply_of supply actor = if is_source_kernel actor.kernel then supply else 0

-- what is played: the accepted graph with the script's limit for each actor, its supply for each source, and its limit on all firings
abbrev pub plan_in : Accepted → Script → Plan
plan_in a script = plan_for a (replicate (length a.graph.actors) script.limit) (map (supply_of script.supply) a.graph.actors) script.firings

-- ---- what is printed

-- a pool that holds what waits in the channels: it has as many cells as are played with, they are shared out,
-- and the tokens of each chain are those of its channel
pub record Holds (plan : Plan) (p : Present) (pool : Shared) : Type 0 where
  pub size : pool.size ≡ plan.cells
  pub partition : IsPartition pool
  pub tokens : map held_tokens pool.chains ≡ p.tokens

-- the text of a line that is played in a state: the reply of the step, or the cells of some pool that holds what waits in the channels
abbrev pub PrintsLine : List (List ℕ) → Plan → State → Line → List ℕ → Type 0
PrintsLine names plan s (Play verb name m) text = text ≡ reply_line names verb name (reply_to plan s m)
PrintsLine names plan s Cells text = (pool : Shared) × Holds plan (present s) pool × (text ≡ cells_text names pool)

-- the state after a line
abbrev pub next_state : Plan → State → Line → State
next_state plan s (Play verb name m) = after plan s m
next_state plan s Cells = s

-- the text of lines that are played one after another from a state
abbrev pub PrintsLines : List (List ℕ) → Plan → State → List Line → List ℕ → Type 0
PrintsLines names plan s [] text = text ≡ []
PrintsLines names plan s (line ∷ lines) text =
    (first : List ℕ) × (rest : List ℕ) × PrintsLine names plan s line first
    × PrintsLines names plan (next_state plan s line) lines rest × (text ≡ first ++ rest)

-- the fault tells why the graph is not accepted, other than for want of memory
abbrev pub RefusesGraph : Graph → ToolFault → Type 0
RefusesGraph g fault = (refusal : AcceptFault) × IsNotAccepted g refusal × (refusal ≢ accept.Memory) × (fault ≡ accept_fault (names_of g.channels) refusal)

-- the text of lines on a graph that is accepted, from the opening state on; or why it is not accepted
abbrev pub IsReplay : Graph → Script → List Line → Result (List ℕ) ToolFault → Type 0
IsReplay g script lines (Ok text) =
    (a : Accepted) × IsAccepted a × (a.graph ≡ g) × PrintsLines (names_of g.channels) (plan_in a script) (opening (plan_in a script)) lines text
IsReplay g script lines (Err fault) = RefusesGraph g fault

-- the text of a script on a graph, or its first fault: the lines are looked at before the graph is accepted
abbrev pub IsReplayOf : Graph → Script → Result (List ℕ) ToolFault → Type 0
IsReplayOf g script answer = MatchResult (lines_from g 0 script.lines) (λ lines. IsReplay g script lines answer) (λ fault. answer ≡ Err fault)

-- what is printed for a graph file whose graph, or first fault, this is
abbrev pub IsAnswerFor : Result Graph GraphFault → List ℕ → Result (List ℕ) ToolFault → Type 0
IsAnswerFor (Ok g) bytes answer = MatchResult (script_of bytes) (λ script. IsReplayOf g script answer) (λ fault. answer ≡ Err (fault_of fault))
IsAnswerFor (Err fault) bytes answer = answer ≡ Err (fault_of fault)

-- what is printed for a graph file, or its first fault: those of the graph come first, then those of the script's
-- table, of its lines, and why the graph is not accepted
abbrev pub IsAnswer : List ℕ → Result (List ℕ) ToolFault → Type 0
IsAnswer bytes answer = (graph : Result Graph GraphFault) × IsGraphOf bytes graph × IsAnswerFor graph bytes answer
