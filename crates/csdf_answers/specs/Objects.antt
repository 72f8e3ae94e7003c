-- The answers to questions about a graph file and the faults of the program as JSON objects, and the forms in which these are told.
use Rattle.std.specs.Prelude.{◌≡◌, ℕ, true, List, ◌++◌, Option, Some, None, MatchOption, Result, codes, slice_index}
use Rattle.std.specs.List.{enumerate_from}
use Rattle.json.specs.Json.{Json, string, object, Items, no_members}
use Rattle.csdf_json.specs.Lines.{IsLineOf, flag_member, items_by, list_member, number_member, text_member}
use Rattle.csdf_analysis.specs.Acceptance.{Accepted, cells_of}
use Rattle.csdf_analysis.specs.declared.room.Room.{Room}
use Rattle.csdf_answers.specs.declared.answer.Answer.{Answer}
use Rattle.csdf_answers.specs.declared.answer.Answer.TheVariants as answer
use Rattle.csdf_answers.specs.declared.fault.ToolFault.{ToolFault}
use Rattle.csdf_answers.specs.declared.question.Form.{Form}
use Rattle.csdf_answers.specs.declared.question.Form.TheVariants as form
use Rattle.csdf_answers.specs.declared.question.Question.{Question}
use Rattle.csdf_answers.specs.Described.{AreLinesOf, IsDescriptionBy, actor_names}
use Rattle.csdf_answers.specs.Faults.{fault_text, reason_text, status_of}
use Rattle.csdf_answers.specs.Printed.{newline, name_at, names_of}

-- ---- objects

-- how many actors and channels a consistent graph has
abbrev pub check_object : ℕ → ℕ → Json
check_object actors channels =
    object (flag_member (codes "consistent") true (number_member (codes "actors") actors (number_member (codes "channels") channels no_members)))

-- an actor: its name, its cycles and its firings in a period
abbrev pub actor_object : List ℕ → ℕ → ℕ → Json
actor_object name r q = object (text_member (codes "actor") name (number_member (codes "cycles") r (number_member (codes "firings") q no_members)))

-- all actors in order
abbrev pub actor_items : List ℕ → List ℕ → List (ℕ × List ℕ) → Items
actor_items r q rows = items_by (λ (row : ℕ × List ℕ). actor_object row.1 (slice_index r row.0) (slice_index q row.0)) rows

abbrev pub repetition_object : List ℕ → List ℕ → List (ℕ × List ℕ) → Json
repetition_object r q rows = object (list_member (codes "repetition") (actor_items r q rows) no_members)

-- the name of the actor of each firing
abbrev pub firing_items : List (List ℕ) → List ℕ → Items
firing_items names schedule = items_by (λ (a : ℕ). string (name_at names a)) schedule

abbrev pub schedule_object : List (List ℕ) → List ℕ → Json
schedule_object names schedule = object (list_member (codes "schedule") (firing_items names schedule) no_members)

-- a channel: its name and its capacity
abbrev pub channel_object : List ℕ → ℕ → Json
channel_object name b = object (text_member (codes "channel") name (number_member (codes "capacity") b no_members))

-- all channels in order
abbrev pub channel_items : List ℕ → List (ℕ × List ℕ) → Items
channel_items capacities rows = items_by (λ (row : ℕ × List ℕ). channel_object row.1 (slice_index capacities row.0)) rows

-- and the number of cells that they share
abbrev pub capacity_object : Accepted → Json
capacity_object a =
    object (list_member (codes "capacities") (channel_items a.capacities (enumerate_from 0 (names_of a.graph.channels)))
    (number_member (codes "cells") (cells_of a) no_members))

-- a fault: its reason, and the exit status
abbrev pub reason_object : List ℕ → ℕ → Json
reason_object reason status = object (text_member (codes "fault") reason (number_member (codes "status") status no_members))

abbrev pub fault_object : ToolFault → Json
fault_object fault = reason_object (reason_text fault) (status_of fault)

-- ---- forms

-- the object of an answer; a drawing has none
abbrev pub object_of : Answer → Option Json
object_of (answer.Check actors channels) = Some (check_object actors channels)
object_of (answer.Repetition found) =
    Some (repetition_object found.vector.r.items found.vector.q.items (enumerate_from 0 (actor_names found.graph.actors)))
object_of (answer.Schedule a firings) = Some (schedule_object (actor_names a.graph.actors) firings.items)
object_of (answer.Capacity a) = Some (capacity_object a)
object_of (answer.Dot a) = None

-- a text is the line of an answer's object, and its lines where it has none
abbrev pub IsObjectOf : Answer → List ℕ → Type 0
IsObjectOf answer text = MatchOption (object_of answer) (AreLinesOf answer text) (λ value. IsLineOf value text)

-- a text tells an answer in a form
abbrev pub TellsAnswer : Form → Answer → List ℕ → Type 0
TellsAnswer form.Text = AreLinesOf
TellsAnswer form.Json = IsObjectOf

-- the answer to a question about a graph file in a form, or its first fault
abbrev pub IsDescriptionAs : Form → Question → Room → List ℕ → Result (List ℕ) ToolFault → Type 0
IsDescriptionAs form = IsDescriptionBy (TellsAnswer form)

-- a text tells a fault in a form: it is the fault's line, or the line of its object
abbrev pub TellsFault : Form → ToolFault → List ℕ → Type 0
TellsFault form.Text fault text = text ≡ fault_text fault ++ newline
TellsFault form.Json fault text = IsLineOf (fault_object fault) text
