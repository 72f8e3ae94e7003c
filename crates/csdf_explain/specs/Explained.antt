-- What the program tells of a graph file in answer to `csdf explain`: why it is refused, or that it is accepted.
use Rattle.std.specs.Prelude.{◌≡◌, ◌⊎◌, ℕ, List, [], ◌++◌, Option, Some, None, Result, Ok, Err, MatchOption, MatchResult, codes, if◌then◌else◌, nat_lt, ◌==◌, length, slice_get, sum}
use Rattle.std.specs.List.{flat_map}
use Rattle.std.specs.Option.{option_map_or}
use Rattle.std.specs.Fmt.{decimal}
use Rattle.csdf_graph.specs.declared.fault.GraphFault.{GraphFault}
use Rattle.csdf_model.specs.Graph.{Actor, Channel, Graph}
use Rattle.csdf_model.specs.Rates.{consumed, produced}
use Rattle.csdf_graph.specs.GraphText.{IsGraphOf}
use Rattle.csdf_analysis.specs.declared.demand.Demand.{Demand}
use Rattle.csdf_analysis.specs.declared.demand.Ratio.{Ratio}
use Rattle.csdf_analysis.specs.declared.fault.AcceptFault.{AcceptFault}
use Rattle.csdf_analysis.specs.declared.fault.AcceptFault.TheVariants as accept
use Rattle.csdf_analysis.specs.declared.stall.Bounds.{Bounds}
use Rattle.csdf_analysis.specs.declared.stall.Bounds.TheVariants as by
use Rattle.csdf_analysis.specs.declared.stall.Stall.{Stall}
use Rattle.csdf_analysis.specs.Acceptance.{Accepted, IsAccepted, IsNotAccepted}
use Rattle.csdf_analysis.specs.Alone.{EachHasEnough, IsFirstTight}
use Rattle.csdf_analysis.specs.declared.calls.alone.Tight.{Tight}
use Rattle.csdf_analysis.specs.declared.calls.relief.Relief.{Relief}
use Rattle.csdf_analysis.specs.Demands.{IsDemand}
use Rattle.csdf_analysis.specs.Relief.{HaveNoRelief, IsFirstRelief}
use Rattle.csdf_analysis.specs.Repetition.{IsRepetition}
use Rattle.csdf_analysis.specs.Stalling.{IsStall, bounds_for}
use Rattle.csdf_answers.specs.declared.fault.ToolFault.{ToolFault}
use Rattle.csdf_answers.specs.Described.{actor_names}
use Rattle.csdf_answers.specs.Faults.{fault_of, fault_text}
use Rattle.csdf_answers.specs.Printed.{newline, names_of, name_at}
use Rattle.csdf_explain.specs.Stalled.{stall_text}
use Rattle.csdf_explain.specs.Ways.{ClosesCircle}

-- ---- texts

abbrev pub accepted_line : List ℕ
accepted_line = codes "accepted: a period completes, and can be repeated for ever\n"

-- that it is so with the cells that the capacities add up to, of which the file gives too few
abbrev pub few_cells_text : ℕ → ℕ → List ℕ
few_cells_text needed given =
    codes "accepted: a period completes, and can be repeated for ever, with as many cells as the capacities add up to, "
    ++ (decimal needed ++ (codes "\nthe file gives " ++ (decimal given ++ codes ": a run may end starved, for want of cells\n")))

-- that a graph is accepted, by the cells that its capacities add up to and those that its file gives
abbrev pub accepted_text : ℕ → Option ℕ → List ℕ
accepted_text needed None = accepted_line
accepted_text needed (Some given) = if nat_lt given needed then few_cells_text needed given else accepted_line

-- so many cycles of the one to so many of the other
abbrev pub asked_text : List ℕ → List ℕ → Ratio → List ℕ
asked_text from to r = codes " asks " ++ decimal r.from ++ codes " of " ++ from ++ codes " to " ++ decimal r.to ++ codes " of " ++ to

-- what the channels before it ask
abbrev pub ratio_text : Ratio → List ℕ
ratio_text r = codes ", those before it " ++ (decimal r.from ++ (codes " to " ++ (decimal r.to ++ newline)))

abbrev pub before_text : Option Ratio → List ℕ
before_text None = codes ", whom those before it do not join\n"
before_text (Some r) = ratio_text r

-- where those before it do not join its ends, the numbers agree, and are too great
abbrev pub unbalanced_heading : Option Ratio → List ℕ
unbalanced_heading None = codes "consistent so far, but more than 1024 cycles of some actor in a period: "
unbalanced_heading (Some r) = codes "unbalanced: "

-- the line of a channel that is not balanced, by its name and those of its ends
abbrev pub unbalanced_text : List ℕ → List ℕ → List ℕ → Demand → List ℕ
unbalanced_text name from to d = unbalanced_heading d.before ++ name ++ asked_text from to d.own ++ before_text d.before

-- how many phases the actor with this number has
abbrev pub phases_at : List Actor → ℕ → ℕ
phases_at actors a = option_map_or (λ (x : Actor). x.phases) (slice_get actors a) 0

-- how many tokens a cycle of the channel's producer puts in, and how many one of its consumer takes out
abbrev pub put_in : List Actor → Channel → ℕ
put_in actors c = produced c (phases_at actors c.from)

abbrev pub taken_out : List Actor → Channel → ℕ
taken_out actors c = consumed c (phases_at actors c.to)

-- the line of a channel of a circle, with what a cycle of each of its ends moves
abbrev pub cycles_line : List ℕ → ℕ → List ℕ → ℕ → List ℕ → List ℕ
cycles_line name gives from takes to =
    name ++ (codes ": " ++ (decimal gives ++ (codes " from each cycle of " ++ (from ++ (codes ", " ++ (decimal takes ++ (codes " to each of " ++ (to ++ newline))))))))

abbrev pub way_line : Graph → Option Channel → List ℕ
way_line g None = []
way_line g (Some c) =
    cycles_line c.name (put_in g.actors c) (name_at (actor_names g.actors) c.from) (taken_out g.actors c) (name_at (actor_names g.actors) c.to)

abbrev pub way_lines : Graph → List ℕ → List ℕ
way_lines g way = flat_map (λ n. way_line g (slice_get g.channels n)) way

-- the circle that a channel closes with these
abbrev pub circle_lines : Graph → ℕ → List ℕ → List ℕ
circle_lines g c way =
    codes "one of these, which lie in a circle, does not fit the others:\n" ++ way_line g (slice_get g.channels c) ++ way_lines g way

-- where there are some
abbrev pub way_text : Graph → ℕ → List ℕ → List ℕ
way_text g c way = if length way == 0 then [] else circle_lines g c way

abbrev pub too_large_text : List ℕ → List ℕ
too_large_text name = codes "too large: " ++ name ++ codes " is given more than 65535 tokens in a period, its first ones counted\n"

-- the line of a channel whose given capacity is too small even where no other channel is in the way
abbrev pub tight_line : List ℕ → ℕ → ℕ → List ℕ
tight_line name given needs =
    codes "too tight: " ++ (name ++ (codes " is given " ++ (decimal given ++ (codes ", and needs " ++ (decimal needs ++ codes " even alone\n")))))

-- and none where there is no such channel
abbrev pub tight_text : List (List ℕ) → Option Tight → List ℕ
tight_text names None = []
tight_text names (Some t) = tight_line (name_at names t.channel) t.given t.needs

-- the line of a channel with a greater capacity of which a period completes
abbrev pub relief_line : List ℕ → ℕ → List ℕ
relief_line name capacity = codes "with " ++ (decimal capacity ++ (codes " in " ++ (name ++ codes ", and the others as given, a period completes\n")))

-- and none where there is no such channel
abbrev pub relief_text : List (List ℕ) → Option Relief → List ℕ
relief_text names None = []
relief_text names (Some r) = relief_line (name_at names r.channel) r.capacity

-- ---- explanations

-- the channel of the number is told, with what it asks and what those before it ask
abbrev pub TellsDemand : Graph → ℕ → List ℕ → Type 0
TellsDemand g c text =
    (channel : Channel) × (d : Demand) × (slice_get g.channels c ≡ Some channel) × IsDemand g.actors g.channels c d
    × (text ≡ unbalanced_text (name_at (names_of g.channels) c) (name_at (actor_names g.actors) channel.from) (name_at (actor_names g.actors) channel.to) d)

-- and then the circle that it closes with channels before it, where it does
abbrev pub TellsUnbalanced : Graph → ℕ → List ℕ → Type 0
TellsUnbalanced g c text =
    (front : List ℕ) × (way : List ℕ) × TellsDemand g c front × ClosesCircle g.channels c way × (text ≡ front ++ way_text g c way)

-- the actors that wait where a run stands still under the capacities are told
abbrev pub TellsStall : Graph → Bounds → List ℕ → Type 0
TellsStall g bounds text =
    (r : List ℕ) × (q : List ℕ) × (s : Stall) × IsRepetition g.actors g.channels r q × IsStall g.channels q (bounds_for bounds q g.channels) s
    × (text ≡ stall_text (record { graph = g; bounds = bounds; stall = s }))

-- it is what relieves a run that stands still so
abbrev pub Relieves : Graph → List ℕ → Stall → Option Relief → Type 0
Relieves g q s relief = MatchOption relief (HaveNoRelief g.channels q s.waits.items) (IsFirstRelief g.channels q s.waits.items)

-- where a run stands still under the given capacities, and what relieves it, was put behind a text
abbrev pub AppendsTooTight : Graph → List ℕ → List ℕ → List ℕ → Type 0
AppendsTooTight g q before after =
    (s : Stall) × (relief : Option Relief) × IsStall g.channels q (bounds_for by.Given q g.channels) s × Relieves g q s relief
    × (after ≡ before ++ (stall_text (record { graph = g; bounds = by.Given; stall = s }) ++ relief_text (names_of g.channels) relief))

-- the first channel whose given capacity is too small even alone is told, then the actors that wait under the given capacities, and then a channel with a greater
-- capacity of which a period completes
abbrev pub TellsTight : Graph → List ℕ → Type 0
TellsTight g text =
    (r : List ℕ) × (q : List ℕ) × (tight : Option Tight) × IsRepetition g.actors g.channels r q
    × MatchOption tight (EachHasEnough g.channels q) (IsFirstTight g.channels q) × AppendsTooTight g q (tight_text (names_of g.channels) tight) text

-- what is told of a graph for each reason to refuse it
abbrev pub TellsRefusal : Graph → AcceptFault → List ℕ → Type 0
TellsRefusal g (accept.Unbalanced c) text = TellsUnbalanced g c text
TellsRefusal g (accept.TooLarge c) text = text ≡ too_large_text (name_at (names_of g.channels) c)
TellsRefusal g accept.Deadlock text = TellsStall g by.Full text
TellsRefusal g accept.TooTight text = TellsTight g text
TellsRefusal g accept.Memory text = ⊥

-- what is told of a graph: that it is accepted, or why it is not
abbrev pub ExplainsGraph : Graph → List ℕ → Type 0
ExplainsGraph g text =
    ((a : Accepted) × IsAccepted a × (a.graph ≡ g) × (text ≡ accepted_text (sum a.capacities) g.cells))
    ⊎ ((refusal : AcceptFault) × IsNotAccepted g refusal × TellsRefusal g refusal text)

-- what is told of a graph file that is refused: the line of its fault, and then what else there is to say of it
abbrev pub ExplainsFault : GraphFault → List ℕ → Type 0
ExplainsFault fault text = (more : List ℕ) × (text ≡ fault_text (fault_of fault) ++ newline ++ more)

-- an answer to `csdf explain`, which is never a fault of the file
abbrev pub IsExplained : List ℕ → Result (List ℕ) ToolFault → Type 0
IsExplained bytes (Ok text) =
    (graph : Result Graph GraphFault) × IsGraphOf bytes graph × MatchResult graph (λ g. ExplainsGraph g text) (λ fault. ExplainsFault fault text)
IsExplained bytes (Err fault) = ⊥
