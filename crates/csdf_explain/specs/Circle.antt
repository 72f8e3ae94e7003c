-- The circle of actors that hold each other up where a run stands still.
use Rattle.std.specs.Prelude.{ℕ, suc, Bool, false, not, ◌==◌, if◌then◌else◌, List, [], ◌∷◌, Option, Some, None, map, slice_index, slice_index_or}
use Rattle.std.specs.List.{list_any}
use Rattle.csdf_model.specs.Graph.{Channel}
use Rattle.csdf_analysis.specs.declared.stall.Wait.{Wait}
use Rattle.csdf_analysis.specs.declared.stall.Wait.TheVariants as wait

-- the producers of the channels, and their consumers
abbrev pub producers : List Channel → List ℕ
producers channels = map (λ (c : Channel). c.from) channels

abbrev pub consumers : List Channel → List ℕ
consumers channels = map (λ (c : Channel). c.to) channels

-- the actor that one waits for: who puts in the tokens that it lacks, or takes those that have its room; itself where it does not wait
abbrev pub awaited_by : List Channel → ℕ → Option Wait → ℕ
awaited_by channels a None = a
awaited_by channels a (Some (wait.Tokens c)) = slice_index (producers channels) c
awaited_by channels a (Some (wait.Room c)) = slice_index (consumers channels) c

abbrev pub awaited : List Channel → List (Option Wait) → ℕ → ℕ
awaited channels waits a = awaited_by channels a (slice_index_or waits a None)

-- the actor that is come to from this one, with a step for each entry of a list
abbrev pub walked : List Channel → List (Option Wait) → List (Option Wait) → ℕ → ℕ
walked channels waits [] a = a
walked channels waits (step ∷ steps) a = walked channels waits steps (awaited channels waits a)

-- the actors from this one on, each the one that the last waits for, until that is the first; of no more than so many steps
abbrev pub round : List Channel → List (Option Wait) → List (Option Wait) → ℕ → ℕ → List ℕ
round channels waits [] first a = []
round channels waits (step ∷ steps) first a =
    a ∷ (if awaited channels waits a == first then [] else round channels waits steps first (awaited channels waits a))

-- it waits, and is none of these
abbrev pub is_other : List ℕ → ℕ → Option Wait → Bool
is_other these a None = false
is_other these a (Some w) = not (list_any (λ b. b == a) these)

-- the actors that wait, but for these, in file order
abbrev pub waiting_but : List ℕ → ℕ → List (Option Wait) → List ℕ
waiting_but these a [] = []
waiting_but these a (w ∷ waits) = if is_other these a w then a ∷ waiting_but these (suc a) waits else waiting_but these (suc a) waits

-- the circle from its actor that is come to first
abbrev pub circle_at : List Channel → List (Option Wait) → ℕ → List ℕ
circle_at channels waits first = round channels waits waits first first

-- the circle that the first waiting actor leads to: as many steps as there are actors end in it
abbrev pub circle : List Channel → List (Option Wait) → List ℕ
circle channels waits = circle_at channels waits (walked channels waits waits (slice_index (waiting_but [] 0 waits) 0))
