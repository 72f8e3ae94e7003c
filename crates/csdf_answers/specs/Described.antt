-- What the program answers to a question about a graph file.
use Rattle.std.specs.Prelude.{◌≡◌, ◌≢◌, ℕ, List, ◌++◌, Result, Ok, Err, MatchResult, codes, length, slice_index}
use Rattle.std.specs.List.{enumerate_from, flat_map}
use Rattle.std.specs.Fmt.{decimal}
use Rattle.csdf_graph.specs.declared.fault.GraphFault.{GraphFault}
use Rattle.csdf_model.specs.Graph.{Graph}
pub use Rattle.csdf_model.specs.Names.{actor_names}
use Rattle.csdf_graph.specs.GraphText.{IsGraphOf}
use Rattle.csdf_analysis.specs.declared.fault.AcceptFault.{AcceptFault}
use Rattle.csdf_analysis.specs.declared.fault.AcceptFault.TheVariants as accept
use Rattle.csdf_analysis.specs.Acceptance.{Accepted, IsAccepted, cells_of}
use Rattle.csdf_analysis.specs.Period.{IsScheduleOf}
use Rattle.csdf_analysis.specs.Repetition.{IsRepetition, IsRefused}
use Rattle.csdf_analysis.specs.declared.room.Room.{Room}
use Rattle.csdf_analysis.specs.Room.{IsWithRoom}
use Rattle.csdf_answers.specs.declared.answer.Answer.{Answer}
use Rattle.csdf_answers.specs.declared.answer.Answer.TheVariants as answer
use Rattle.csdf_answers.specs.declared.fault.ToolFault.{ToolFault}
use Rattle.csdf_answers.specs.declared.question.Question.{Question}
use Rattle.csdf_answers.specs.declared.question.Question.TheVariants as question
use Rattle.csdf_answers.specs.Drawing.{dot_text}
use Rattle.csdf_answers.specs.Faults.{fault_of, accept_fault}
use Rattle.csdf_answers.specs.Printed.{newline, names_of, name_at}
use Rattle.csdf_answers.specs.Session.{RefusesGraph}

-- ---- texts

-- how many actors and channels a consistent graph has
abbrev pub check_text : ℕ → ℕ → List ℕ
check_text actors channels = codes "consistent: " ++ decimal actors ++ codes " actors, " ++ decimal channels ++ codes " channels" ++ newline

-- the line of an actor: its name, its cycles and its firings in a period
abbrev pub repetition_line : List ℕ → ℕ → ℕ → List ℕ
repetition_line name r q = name ++ codes " " ++ decimal r ++ codes " " ++ decimal q ++ newline

-- the lines of all actors in order
abbrev pub repetition_text : List ℕ → List ℕ → List (ℕ × List ℕ) → List ℕ
repetition_text r q rows = flat_map (λ row. repetition_line row.1 (slice_index r row.0) (slice_index q row.0)) rows

-- the name of the actor of each firing, a line each
abbrev pub schedule_text : List (List ℕ) → List ℕ → List ℕ
schedule_text names schedule = flat_map (λ a. name_at names a ++ newline) schedule

-- the line of a channel: its name and its capacity
abbrev pub capacity_line : List ℕ → ℕ → List ℕ
capacity_line name b = name ++ codes " " ++ decimal b ++ newline

-- the lines of all channels in order
abbrev pub capacity_lines : List ℕ → List (ℕ × List ℕ) → List ℕ
capacity_lines capacities rows = flat_map (λ row. capacity_line row.1 (slice_index capacities row.0)) rows

-- and the number of cells that they share
abbrev pub capacity_text : Accepted → List ℕ
capacity_text a = capacity_lines a.capacities (enumerate_from 0 (names_of a.graph.channels)) ++ codes "cells " ++ decimal (cells_of a) ++ newline

-- ---- answers

-- its lines
abbrev pub lines_of : Answer → List ℕ
lines_of (answer.Check actors channels) = check_text actors channels
lines_of (answer.Repetition found) = repetition_text found.vector.r.items found.vector.q.items (enumerate_from 0 (actor_names found.graph.actors))
lines_of (answer.Schedule a firings) = schedule_text (actor_names a.graph.actors) firings.items
lines_of (answer.Capacity a) = capacity_text a
lines_of (answer.Dot a) = dot_text a

-- what it answers
abbrev pub question_of : Answer → Question
question_of (answer.Check actors channels) = question.Check
question_of (answer.Repetition found) = question.Repetition
question_of (answer.Schedule a firings) = question.Schedule
question_of (answer.Capacity a) = question.Capacity
question_of (answer.Dot a) = question.Dot

-- the graph as it is accepted with this room
abbrev pub IsAcceptedIn : Room → Graph → Accepted → Type 0
IsAcceptedIn room g a = IsAccepted a × IsWithRoom room a.q g a.graph

-- what it says is true of the graph, with this room where it is accepted
abbrev pub IsTrueOf : Room → Graph → Answer → Type 0
IsTrueOf room g (answer.Check actors channels) =
    (r : List ℕ) × (q : List ℕ) × IsRepetition g.actors g.channels r q × (actors ≡ length g.actors) × (channels ≡ length g.channels)
IsTrueOf room g (answer.Repetition found) = (found.graph ≡ g) × IsRepetition g.actors g.channels found.vector.r.items found.vector.q.items
IsTrueOf room g (answer.Schedule a firings) = IsAcceptedIn room g a × IsScheduleOf a.graph.channels a.q a.capacities firings.items
IsTrueOf room g (answer.Capacity a) = IsAcceptedIn room g a
IsTrueOf room g (answer.Dot a) = IsAcceptedIn room g a

-- why the graph has no least vector within the limits, other than for want of memory
abbrev pub RefusesRepetition : Graph → ToolFault → Type 0
RefusesRepetition g fault =
    (refusal : AcceptFault) × IsRefused g.actors g.channels refusal × (refusal ≢ accept.Memory) × (fault ≡ accept_fault (names_of g.channels) refusal)

-- why there is no answer to a question about the graph
abbrev pub Refuses : Question → Graph → ToolFault → Type 0
Refuses question.Check g fault = RefusesRepetition g fault
Refuses question.Repetition g fault = RefusesRepetition g fault
Refuses question.Schedule g fault = RefusesGraph g fault
Refuses question.Capacity g fault = RefusesGraph g fault
Refuses question.Dot g fault = RefusesGraph g fault

-- the answer to a question about a graph, with this room where it is accepted, or its first fault
abbrev pub Answers : Question → Room → Graph → Result Answer ToolFault → Type 0
Answers question room g (Ok answer) = (question_of answer ≡ question) × IsTrueOf room g answer
Answers question room g (Err fault) = Refuses question g fault

-- ---- texts of answers

-- the text of the answer to a question about a graph, as texts tell answers, or its first fault
abbrev pub IsToldBy : (Answer → List ℕ → Type 0) → Question → Room → Graph → Result (List ℕ) ToolFault → Type 0
IsToldBy Tells question room g (Ok text) = (answer : Answer) × Answers question room g (Ok answer) × Tells answer text
IsToldBy Tells question room g (Err fault) = Refuses question g fault

-- the same about a graph file: its own faults come first
abbrev pub IsDescriptionBy : (Answer → List ℕ → Type 0) → Question → Room → List ℕ → Result (List ℕ) ToolFault → Type 0
IsDescriptionBy Tells question room bytes told =
    (graph : Result Graph GraphFault) × IsGraphOf bytes graph
    × MatchResult graph (λ g. IsToldBy Tells question room g told) (λ fault. told ≡ Err (fault_of fault))

-- a text is the lines of an answer
abbrev pub AreLinesOf : Answer → List ℕ → Type 0
AreLinesOf answer text = text ≡ lines_of answer

-- the answer to a question about a graph file in lines, or its first fault
abbrev pub IsDescription : Question → Room → List ℕ → Result (List ℕ) ToolFault → Type 0
IsDescription = IsDescriptionBy AreLinesOf
