-- What the program tells of a graph in which a run stands still.
use Rattle.std.specs.Prelude.{ℕ, List, [], ◌++◌, Option, Some, None, codes, if◌then◌else◌, nat_lt, ◌==◌, ◌-◌, length, take, slice_get, slice_index, slice_index_or}
use Rattle.std.specs.List.{flat_map}
use Rattle.std.specs.Option.{option_map_or}
use Rattle.std.specs.Fmt.{decimal}
use Rattle.csdf_model.specs.Graph.{Channel}
use Rattle.csdf_model.specs.Rates.{consumption}
use Rattle.csdf_analysis.specs.declared.stall.Bounds.{Bounds}
use Rattle.csdf_analysis.specs.declared.stall.Bounds.TheVariants as by
use Rattle.csdf_analysis.specs.declared.stall.Wait.{Wait}
use Rattle.csdf_analysis.specs.declared.stall.Wait.TheVariants as wait
use Rattle.csdf_explain.specs.declared.stalled.Stalled.{Stalled}
use Rattle.csdf_explain.specs.Circle.{circle, waiting_but}
use Rattle.csdf_answers.specs.Described.{actor_names}
use Rattle.csdf_answers.specs.Printed.{newline, names_of, name_at}

-- ---- lines

-- what the matter is with a run that stands still under these capacities
abbrev pub heading : Bounds → List ℕ
heading by.Full = codes "deadlock: under full capacities no actor can fire any more, and the period is not complete\n"
heading by.Given = codes "too tight: under the given capacities no actor can fire any more, and the period is not complete\n"

-- the line of an actor that waits for tokens of a channel, and of one that waits for room in it
abbrev pub tokens_line : List ℕ → List ℕ → ℕ → ℕ → List ℕ
tokens_line actor name holds lacks =
    actor ++ (codes " waits for tokens of " ++ (name ++ (codes ", which holds " ++ (decimal holds ++ (codes ", " ++ (decimal lacks ++ codes " too few\n"))))))

abbrev pub room_line : List ℕ → List ℕ → ℕ → ℕ → List ℕ
room_line actor name holds most =
    actor ++ (codes " waits for room in " ++ (name ++ (codes ", which holds " ++ (decimal holds ++ (codes " of " ++ (decimal most ++ newline))))))

-- how many more there are
abbrev pub more_line : ℕ → List ℕ
more_line count = codes "and " ++ (decimal count ++ codes " more\n")

-- who waits for whom in a circle of so many actors
abbrev pub circle_heading : ℕ → List ℕ
circle_heading count =
    if count == 1 then codes "this one waits for itself:\n" else codes "each of these waits for the next one, and the last for the first:\n"

-- ---- the graph where it stands still

-- how many tokens the next firing of the channel's consumer lacks there, where the actors have fired so often and it holds so many
abbrev pub lacking : List ℕ → ℕ → Channel → ℕ
lacking counts holds c = consumption c (slice_index counts c.to) - holds

abbrev pub lacking_at : Stalled → ℕ → ℕ
lacking_at s n = option_map_or (lacking s.stall.counts.items (slice_index s.stall.held.items n)) (slice_get s.graph.channels n) 0

abbrev pub channel_at : Stalled → ℕ → List ℕ
channel_at s n = name_at (names_of s.graph.channels) n

-- the line of an actor by its wait
abbrev pub wait_line : Stalled → List ℕ → Wait → List ℕ
wait_line s actor (wait.Tokens c) = tokens_line actor (channel_at s c) (slice_index s.stall.held.items c) (lacking_at s c)
wait_line s actor (wait.Room c) = room_line actor (channel_at s c) (slice_index s.stall.held.items c) (slice_index s.stall.bounds.items c)

-- and none where it does not wait
abbrev pub wait_text : Stalled → List ℕ → Option Wait → List ℕ
wait_text s actor None = []
wait_text s actor (Some w) = wait_line s actor w

-- the lines of the actors with these numbers
abbrev pub wait_lines : Stalled → List ℕ → List ℕ
wait_lines s numbers = flat_map (λ a. wait_text s (name_at (actor_names s.graph.actors) a) (slice_index_or s.stall.waits.items a None)) numbers

-- the lines of the first ten, and how many more there are
abbrev pub some_lines : Stalled → List ℕ → List ℕ
some_lines s numbers =
    if nat_lt 10 (length numbers) then wait_lines s (take 10 numbers) ++ more_line (length numbers - 10) else wait_lines s numbers

-- those that wait beside the circle, where some do
abbrev pub beside_text : Stalled → List ℕ → List ℕ
beside_text s numbers = codes "so these wait too:\n" ++ some_lines s numbers

abbrev pub others_text : Stalled → List ℕ → List ℕ
others_text s numbers = if length numbers == 0 then [] else beside_text s numbers

abbrev pub circle_text : Stalled → List ℕ → List ℕ
circle_text s numbers = circle_heading (length numbers) ++ wait_lines s numbers

-- the circle that keeps the others waiting, and then these
abbrev pub waits_text : Stalled → List ℕ
waits_text s =
    let these = circle s.graph.channels s.stall.waits.items in
    circle_text s these ++ others_text s (waiting_but these 0 s.stall.waits.items)

-- that it stands still, and then these
abbrev pub stall_text : Stalled → List ℕ
stall_text s = heading s.bounds ++ waits_text s
